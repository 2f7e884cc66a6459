-- Sinks, which take texts one after another.
--     SinkLaws puts     no text leaves a sink as it is, and a text and then another are the two as one; puts s text t says that the sink t is s after the text
use Rattle.std.specs.Prelude.{ℕ, List, [], ◌++◌}

pub record SinkLaws {S : Type 0} (puts : S → List ℕ → S → Type 0) : Type 0 where
  pub none : (s : S) → puts s [] s
  pub joined : (s m t : S) (first second : List ℕ) → puts s first m → puts m second t → puts s (first ++ second) t
