-- Answers.
--     reply_of r            the reply r as the promise speaks of it
--     refusal_of e b        a refusal, with its byte if it has one
--     answer_of a           the answer a
use Rattle.std.specs.Prelude.{ℕ, Some, None, Ok, Err, Option, Result}
use Rattle.refusals.specs.declared.Refusal.{Refusal}
use Rattle.cards.specs.declared.reading.ReadFault.{ReadFault}
use Rattle.conduct.specs.Calls as conduct
use Rattle.conduct.specs.Calls.Answer.{done, bytes, tells, first, refused, refused_at}
use Rattle.uses.specs.declared.call.Reply.{Reply}
use Rattle.uses.specs.declared.call.Reply.TheVariants.{Done, Bytes, Tells, First}

abbrev pub reply_of : {V : Type 0} → Reply V → conduct.Answer V
reply_of Done = done
reply_of (Bytes n) = bytes n
reply_of (Tells b) = tells b
reply_of (First r) = first r

abbrev pub refusal_of : {V : Type 0} → Refusal → Option ℕ → conduct.Answer V
refusal_of e (Some b) = refused_at e b
refusal_of e None = refused e

abbrev pub answer_of : {V : Type 0} → Result (Reply V) ReadFault → conduct.Answer V
answer_of (Ok r) = reply_of r
answer_of (Err f) = refusal_of f.refusal f.byte
