-- What a sheet holds after its areas were written, and at the end of a call. Assumes nothing.
--     with_areas                   a sheet on other areas
--     table-there, table-other     the table that was stored in an area, and that of another area
--     seen_same                    sheets with the same tables in their places have one state
--     seen-working                 storing in a working area leaves the state
--     seen-place                   storing in a place stores there
--     few-rows                     a place has no more rows than it has room for
--     seen-fresh                   areas that were opened
--     swept_places, swept_areas, swept_lent    the four working areas, emptied
--     stored-made, stored-none     a result that was made, in its place, and one that was refused
--     passed                       a pass into a working area makes what it leaves there
--     before                       another area was written before
--     pushed_alone, held_alone     a row pushed to an emptied area: what it answers, and what is left
--     making_ended, making_kept    at the end of a call its answer is that of what was made, and so is the state
use Rattle.std.proofs.Common.{◌≡◌, ℕ, ◌*◌, ◌<◌, ◌≤◌, cond, ◌&&◌, eqb, ltb, List, [], ◌∷◌, ◌++◌, length, drop, Ok, Err, Result, sym, refl, ap, ◌∙◌, ⊎_elim, arith}
use Rattle.std.proofs.lemmas.List.{length-take}
use Rattle.std.proofs.lemmas.Bool.{cases_eq, ltb-true, lt-ltb, eq-eqb, ne_eqb, and_from, and_left, cond-true, cond-false, cond_both}
use Rattle.refusals.specs.declared.Refusal.{Refusal}
use Rattle.rings.specs.declared.ring.Ring.{Ghosts}
use Rattle.formats.specs.Drafts.{variables}
use Rattle.formats.specs.declared.variable.Variable.{Variable}
use Rattle.rows.specs.Tables.{limited}
use Rattle.rows.specs.declared.Row.{Row}
use Rattle.areas.specs.Shares.{capacity}
use Rattle.areas.specs.Areas.{Contents, contents, count, storing, fresh, rows_of, answered, pushed, kept as held}
use Rattle.areas.proofs.Storing.{storing-again}
use Rattle.areas.specs.declared.twelve.Areas.{Areas}
use Rattle.sheets.specs.States.{placed, seen, opened, stored, kept}
use Rattle.sheets.specs.Worktops.{state}
use Rattle.sheets.specs.Ends.{made_in, ended, finished, made_of, Making}
use Rattle.sheets.specs.declared.worktop.Worktop.{Worktop}

-- the sheet s on other areas
abbrev pub with_areas : {V : Type 0} {G : Ghosts V} → Worktop V G → Areas V G → Worktop V G
with_areas s a = record { areas = a; format = s.format }

-- ---- tables
module _ {V : Type 0} (c : Contents V) (a : ℕ) (xs : List (Row V)) where
  pub table-there : a < 12 → (storing c a xs).tables a ≡ xs
  table-there h = cond-true _ xs (c.tables a) (and_from _ _ (eq-eqb a a refl) (lt-ltb a 12 h))

  pub table-other : (o : ℕ) → (o ≡ a → ⊥) → (storing c a xs).tables o ≡ c.tables o
  table-other o ne = cond-false _ xs (c.tables o) (and_left _ _ (ne_eqb o a ne))

-- ---- states
pub seen_same : {V : Type 0} (c d : Contents V) (vs : List Variable) → d.room ≡ c.room → ((p : ℕ) → p < 8 → d.tables p ≡ c.tables p) → seen d vs ≡ seen c vs
seen_same {V} c d vs room tables =
    let place : (p : ℕ) → cond (placed p) (d.tables p) [] ≡ cond (placed p) (c.tables p) [] =
    λ p. cond_both (placed p) (d.tables p) [] (λ xs. xs ≡ cond (placed p) (c.tables p) []) (λ t. tables p (ltb-true p 8 t) ∙ sym (cond-true _ _ _ t)) (λ t. sym (cond-false _ _ _ t)) in
    λ i. record { room = room i; places = λ p. place p i; vars = vs }

module _ {V : Type 0} (c : Contents V) (vs : List Variable) where
  pub seen-working : (a : ℕ) (xs : List (Row V)) → 8 ≤ a → seen (storing c a xs) vs ≡ seen c vs
  seen-working a xs h = seen_same c (storing c a xs) vs refl (λ p l. table-other c a xs p (λ e. omega arith))

  pub seen-place : (r : ℕ) (xs : List (Row V)) → r < 8 → seen (storing c r xs) vs ≡ stored (seen c vs) r xs
  seen-place r xs h =
      let place : (p : ℕ) → cond (placed p) ((storing c r xs).tables p) [] ≡ cond (eqb p r) xs (cond (placed p) (c.tables p) []) =
      λ p. ⊎_elim (λ e. cond-true _ _ _ (lt-ltb p 8 (omega arith)) ∙ ap (storing c r xs).tables e ∙ table-there c r xs (omega arith) ∙ sym (cond-true _ _ _ (eq-eqb p r e)))
      (λ ne. ap (λ ys. cond (placed p) ys []) (table-other c r xs p ne) ∙ sym (cond-false _ _ _ (ne_eqb p r ne)))
      (cases_eq p r) in
      λ i. record { room = c.room; places = λ p. place p i; vars = vs }

pub few-rows : {V : Type 0} {G : Ghosts V} (s : Worktop V G) (p : ℕ) → length ((state s).places p) ≤ (state s).room
few-rows s p =
    let c = contents s.areas in
    let n = count s.areas p in
    let l = length-take n (drop (p * c.room) s.areas.rows.now) in
    cond_both (placed p) (c.tables p) [] (λ xs. length xs ≤ c.room) (λ _. omega arith) (λ _. omega arith)

pub seen-fresh : {V : Type 0} (c : Contents V) (n : ℕ) (vs : List Variable) → c ≡ fresh n → seen c vs ≡ opened n vs
seen-fresh c n vs is = ap (λ d. seen d vs) is ∙ (λ i. record { room = capacity n; places = λ p. cond_both (placed p) [] [] (λ xs. xs ≡ []) (λ _. refl) (λ _. refl) i; vars = vs })

-- ---- the working areas emptied, one after the other
module _ {V : Type 0} (c d : Contents V) (b : ℕ) (is : d ≡ storing c b []) where
  gone : b < 12 → d.tables b ≡ []
  gone h = ap (λ e. e.tables b) is ∙ table-there c b [] h

  stays : (a : ℕ) → c.tables a ≡ [] → d.tables a ≡ []
  stays a e = ap (λ e. e.tables a) is ∙ cond_both (eqb a b && ltb b 12) [] (c.tables a) (λ xs. xs ≡ []) (λ _. refl) (λ _. e)

module _ {V : Type 0} (c c₈ c₉ c₁₀ c₁₁ : Contents V) (e₈ : c₈ ≡ storing c 8 []) (e₉ : c₉ ≡ storing c₈ 9 []) (e₁₀ : c₁₀ ≡ storing c₉ 10 []) (e₁₁ : c₁₁ ≡ storing c₁₀ 11 []) where
  pub swept_places : (vs : List Variable) → seen c₁₁ vs ≡ seen c vs
  swept_places vs =
      ap (λ e. seen e vs) e₁₁ ∙ seen-working c₁₀ vs 11 [] (omega arith) ∙ ap (λ e. seen e vs) e₁₀ ∙ seen-working c₉ vs 10 [] (omega arith)
      ∙ ap (λ e. seen e vs) e₉ ∙ seen-working c₈ vs 9 [] (omega arith) ∙ ap (λ e. seen e vs) e₈ ∙ seen-working c vs 8 [] (omega arith)

  pub swept_lent : c₁₁.lent ≡ c.lent
  swept_lent = ap (λ e. e.lent) e₁₁ ∙ ap (λ e. e.lent) e₁₀ ∙ ap (λ e. e.lent) e₉ ∙ ap (λ e. e.lent) e₈

  pub swept_areas : (a : ℕ) → 8 ≤ a → a < 12 → c₁₁.tables a ≡ []
  swept_areas a low high =
      ⊎_elim (λ e. ap c₁₁.tables e ∙ gone c₁₀ c₁₁ 11 e₁₁ (omega arith))
      (λ n₁₁. stays c₁₀ c₁₁ 11 e₁₁ a
      (⊎_elim (λ e. ap c₁₀.tables e ∙ gone c₉ c₁₀ 10 e₁₀ (omega arith))
      (λ n₁₀. stays c₉ c₁₀ 10 e₁₀ a
      (⊎_elim (λ e. ap c₉.tables e ∙ gone c₈ c₉ 9 e₉ (omega arith))
      (λ n₉. stays c₈ c₉ 9 e₉ a (let e : a ≡ 8 = omega arith in ap c₈.tables e ∙ gone c c₈ 8 e₈ (omega arith)))
      (cases_eq a 9)))
      (cases_eq a 10)))
      (cases_eq a 11)

-- ---- the end of a call
module _ {V : Type 0} {G : Ghosts V} (s t : Worktop V G) (r : ℕ) (made : Result ℕ Refusal) where
  pub stored-made : r < 8 → (a : ℕ) → made ≡ Ok a → contents t.areas ≡ storing (contents s.areas) r ((contents s.areas).tables a) → t.format ≡ s.format → state t ≡ finished (state s) (contents s.areas) r made
  stored-made h a e is format =
      (λ i. seen (is i) (variables (format i))) ∙ seen-place (contents s.areas) (variables s.format) r ((contents s.areas).tables a) h
      ∙ ap (finished (state s) (contents s.areas) r) (sym e)

  pub stored-none : ((a : ℕ) → made ≡ Ok a → ⊥) → t ≡ s → state t ≡ finished (state s) (contents s.areas) r made
  stored-none none is = ap state is ∙ by made none
    where
      by : (made : Result ℕ Refusal) → ((a : ℕ) → made ≡ Ok a → ⊥) → state s ≡ finished (state s) (contents s.areas) r made
      by (Ok a) n = absurd (n a refl)
      by (Err e) n = refl

-- ---- what was made
module _ {V : Type 0} {G : Ghosts V} where
  -- the area w of t holds the rows of a, if it is no refusal, and t is as s is in the areas below n
  pub passed : (n w : ℕ) (s t : Worktop V G) (a : Result (List (Row V)) Refusal) (answer : Result (Unit {0}) Refusal) (made : Result ℕ Refusal) → n ≤ w → w < 12 → contents t.areas ≡ storing (contents s.areas) w (rows_of a) → t.format ≡ s.format → answer ≡ answered a → made ≡ made_in w answer → Making n s t a made
  passed n w s t a answer made low high is format answers makes = record {
    result = ap (made_of (contents t.areas)) (makes ∙ ap (made_in w) answers) ∙ there a is;
    others = λ o l. ap (λ c. c.tables o) is ∙ table-other (contents s.areas) w (rows_of a) o (λ e. omega arith);
    lent = ap (λ c. c.lent) is;
    room = ap (λ c. c.room) is;
    format = format;
  }
    where
      there : (a : Result (List (Row V)) Refusal) → contents t.areas ≡ storing (contents s.areas) w (rows_of a) → made_of (contents t.areas) (made_in w (answered a)) ≡ a
      there (Ok xs) e = ap Ok (ap (λ c. c.tables w) e ∙ table-there (contents s.areas) w xs high)
      there (Err x) e = refl

  module _ (n : ℕ) (places : 8 ≤ n) (s t : Worktop V G) (a : Result (List (Row V)) Refusal) (made : Result ℕ Refusal) (m : Making n s t a made) where
    pub making_state : state t ≡ state s
    making_state = ap (λ f. seen (contents t.areas) (variables f)) m.format ∙ seen_same (contents s.areas) (contents t.areas) (variables s.format) m.room (λ p l. m.others p (omega arith))

    pub making_ended : ended made ≡ answered a
    making_ended = by made ∙ ap answered m.result
      where
        by : (made : Result ℕ Refusal) → ended made ≡ answered (made_of (contents t.areas) made)
        by (Ok w) = refl
        by (Err e) = refl

    pub making_kept : (r : ℕ) → finished (state t) (contents t.areas) r made ≡ kept (state s) r a
    making_kept r = by made ∙ (λ i. kept (making_state i) r (m.result i))
      where
        by : (made : Result ℕ Refusal) → finished (state t) (contents t.areas) r made ≡ kept (state t) r (made_of (contents t.areas) made)
        by (Ok w) = refl
        by (Err e) = refl

  -- and before it another area was written
  pub before : (n b : ℕ) (s mid t : Worktop V G) (xs : List (Row V)) (a : Result (List (Row V)) Refusal) (made : Result ℕ Refusal) → n ≤ b → contents mid.areas ≡ storing (contents s.areas) b xs → mid.format ≡ s.format → Making n mid t a made → Making n s t a made
  before n b s mid t xs a made low is format m = record {
    result = m.result;
    others = λ o l. m.others o l ∙ ap (λ c. c.tables o) is ∙ table-other (contents s.areas) b xs o (λ e. omega arith);
    lent = m.lent ∙ ap (λ c. c.lent) is;
    room = m.room ∙ ap (λ c. c.room) is;
    format = m.format ∙ format;
  }

-- one row, pushed to an emptied area
module _ {V : Type 0} (c mid : Contents V) (a : ℕ) (x : Row V) (h : a < 12) (is : mid ≡ storing c a []) where
  abbrev alone : Result (List (Row V)) Refusal
  alone = limited c.room (Ok (x ∷ []))

  pub pushed_alone : pushed mid a x ≡ alone
  pushed_alone = ap (λ d. pushed d a x) is ∙ cond-true _ _ _ (lt-ltb a 12 h) ∙ ap (λ ys. limited c.room (Ok (ys ++ x ∷ []))) (table-there c a [] h)

  pub held_alone : held mid a (pushed mid a x) ≡ storing c a (rows_of alone)
  held_alone = (λ i. held (is i) a (pushed_alone i)) ∙ by alone
    where
      by : (r : Result (List (Row V)) Refusal) → held (storing c a []) a r ≡ storing c a (rows_of r)
      by (Ok xs) = storing-again c a [] xs
      by (Err e) = refl
