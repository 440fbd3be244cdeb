-- Each rule's row: what the number of the first rule that holds says of it, and of those before it. Assumes nothing.
use Rattle.std.specs.Prelude.{◌≡◌, refl, Bool, true, false, cond, List, [], ◌∷◌, ◌++◌, map, ◌↔◌, ◌⊎◌, ℕ, eqb}
use Rattle.std.proofs.Common.{sym, ◌∙◌, true≢false, inl, inr, eqb-true, eq-eqb}
use Rattle.std.proofs.lemmas.Bool.{eqb-false}
use Rattle.standard.specs.Refusals.{first}
use Rattle.calls.specs.Exactly.First.{NoneOf, Rule, rule, First, here, later, all_numbered, numbered}

-- A, with none of the earlier ones
abbrev pub Given : Type 0 → (earlier : List (Type 0)) → Type 0
Given A [] = A
Given A (E ∷ Es) = A × NoneOf (E ∷ Es)

-- one of them
abbrev pub AnyOf : List (Type 0) → Type 0
AnyOf [] = ⊥
AnyOf (A ∷ []) = A
AnyOf (A ∷ B ∷ As) = A ⊎ AnyOf (B ∷ As)

abbrev listed : Bool → Type 0 → List (Type 0) → List (Type 0)
listed true A As = A ∷ As
listed false A As = As

-- the rules of number k, each with those before it
abbrev pub rows_of : (k : ℕ) (earlier : List (Type 0)) → List Rule → List (Type 0)
rows_of k Es [] = []
rows_of k Es (r ∷ rs) = listed (eqb k r.number) (Given r.holds Es) (rows_of k (Es ++ (r.holds ∷ [])) rs)

given : (A : Type 0) (Es : List (Type 0)) → A → NoneOf Es → Given A Es
given A [] a h = a
given A (E ∷ Es) a h = (a, h)

given_both : (A : Type 0) (Es : List (Type 0)) → Given A Es → A × NoneOf Es
given_both A [] g = (g, tt)
given_both A (E ∷ Es) g = g

pub none_more : (A : Type 0) (Es : List (Type 0)) → NoneOf Es → ¬ A → NoneOf (Es ++ (A ∷ []))
none_more A [] h f = (f, tt)
none_more A (E ∷ Es) h f = (h.0, none_more A Es h.1 f)

pub none_split : (A : Type 0) (Es : List (Type 0)) → NoneOf (Es ++ (A ∷ [])) → NoneOf Es × ¬ A
none_split A [] h = (tt, h.0)
none_split A (E ∷ Es) h = let (g, f) = none_split A Es h.1 in ((h.0, g), f)

-- a list with A in front where b says so
in_front : {b : Bool} (A : Type 0) (As : List (Type 0)) → b ≡ true → A → AnyOf (listed b A As)
in_front {b = false} A As e a = absurd (true≢false (sym e))
in_front {b = true} A [] e a = a
in_front {b = true} A (B ∷ Bs) e a = inl a

in_rest : (b : Bool) (A : Type 0) (As : List (Type 0)) → AnyOf As → AnyOf (listed b A As)
in_rest false A As h = h
in_rest true A [] h = absurd h
in_rest true A (B ∷ Bs) h = inr h

in_either : (b : Bool) (A : Type 0) (As : List (Type 0)) → AnyOf (listed b A As) → ((b ≡ true) × A) ⊎ AnyOf As
in_either false A As h = inr h
in_either true A [] h = inl (refl, h)
in_either true A (B ∷ Bs) (inl h) = inl (refl, h)
in_either true A (B ∷ Bs) (inr h) = inr h

-- whichever row of number k it is, none of the earlier ones holds
rows_none : (k : ℕ) (Es : List (Type 0)) (rs : List Rule) → AnyOf (rows_of k Es rs) → NoneOf Es
rows_none k Es [] h = absurd h
rows_none k Es (r ∷ rs) h = go (rows_none k (Es ++ (r.holds ∷ [])) rs) (in_either (eqb k r.number) _ _ h)
  where
    go :
        (AnyOf (rows_of k (Es ++ (r.holds ∷ [])) rs) → NoneOf (Es ++ (r.holds ∷ []))) →
        ((eqb k r.number ≡ true) × Given r.holds Es) ⊎ AnyOf (rows_of k (Es ++ (r.holds ∷ [])) rs) → NoneOf Es
    go rest (inl g) = (given_both r.holds Es g.1).1
    go rest (inr g) = (none_split r.holds Es (rest g)).0

-- THE NUMBER IS k EXACTLY WHERE A RULE OF THAT NUMBER HOLDS AND NONE BEFORE IT DOES
to_row :
    {rs : List Rule} {n : ℕ} (k : ℕ) (Es : List (Type 0)) → ¬ (k ≡ 0) → First rs n → NoneOf Es → n ≡ k →
    AnyOf (rows_of k Es rs)
to_row k Es some First.none h e = absurd (some (sym e))
to_row k Es some (here {r} {rs} g) h e =
    in_front (Given r.holds Es) (rows_of k (Es ++ (r.holds ∷ [])) rs)
    (eq-eqb k r.number (sym e)) (given r.holds Es g h)
to_row k Es some (later {r} {rs} g f) h e =
    in_rest (eqb k r.number) (Given r.holds Es) (rows_of k (Es ++ (r.holds ∷ [])) rs)
    (to_row k (Es ++ (r.holds ∷ [])) some f (none_more r.holds Es h g) e)

from_row : {rs : List Rule} {n : ℕ} (k : ℕ) (Es : List (Type 0)) → First rs n → AnyOf (rows_of k Es rs) → n ≡ k
from_row k Es First.none h = absurd h
from_row k Es (here {r} {rs} g) h = go (in_either (eqb k r.number) _ _ h)
  where
    go :
        ((eqb k r.number ≡ true) × Given r.holds Es) ⊎ AnyOf (rows_of k (Es ++ (r.holds ∷ [])) rs) →
        r.number ≡ k
    go (inl t) = sym (eqb-true k r.number t.0)
    go (inr t) = absurd ((none_split r.holds Es (rows_none k (Es ++ (r.holds ∷ [])) rs t)).1 g)
from_row k Es (later {r} {rs} {n} g f) h =
    go (λ t. from_row k (Es ++ (r.holds ∷ [])) f t) (in_either (eqb k r.number) _ _ h)
  where
    go :
        (AnyOf (rows_of k (Es ++ (r.holds ∷ [])) rs) → n ≡ k) →
        ((eqb k r.number ≡ true) × Given r.holds Es) ⊎ AnyOf (rows_of k (Es ++ (r.holds ∷ [])) rs) → n ≡ k
    go rest (inl t) = absurd (g (given_both r.holds Es t.1).0)
    go rest (inr t) = rest t

pub row : {rs : List Rule} {n : ℕ} → First rs n → (k : ℕ) → eqb k 0 ≡ false → n ≡ k ↔ AnyOf (rows_of k [] rs)
row f k some = (to_row k [] (eqb-false k 0 some) f tt, from_row k [] f)

-- and a rule that comes after all of them, of another number, changes no row
pub row_before :
    {rs : List Rule} {n m j : ℕ} {A : Type 0} → First rs n → First (rule j A ∷ []) m →
    (k : ℕ) → eqb k 0 ≡ false → eqb k j ≡ false → first n m ≡ k ↔ AnyOf (rows_of k [] rs)
row_before {rs} {n} f last k some other = go (eqb n 0) refl last other (row f k some)
  where
    go :
        {m j : ℕ} {A : Type 0} (b : Bool) → eqb n 0 ≡ b → First (rule j A ∷ []) m → eqb k j ≡ false →
        n ≡ k ↔ AnyOf (rows_of k [] rs) → cond b m n ≡ k ↔ AnyOf (rows_of k [] rs)
    go false e last other is = is
    go {j = j} true e (here a) other is =
        (λ h. absurd (eqb-false k j other (sym h)), λ h. absurd (eqb-false k 0 some (sym (is.1 h) ∙ eqb-true n 0 e)))
    go true e (later a First.none) other is =
        (λ h. absurd (eqb-false k 0 some (sym h)), λ h. absurd (eqb-false k 0 some (sym (is.1 h) ∙ eqb-true n 0 e)))

-- AND 0 EXACTLY WHERE NONE HOLDS
pub row_zero :
    {rs : List Rule} {n : ℕ} → all_numbered rs ≡ true → First rs n → n ≡ 0 ↔ NoneOf (map (λ (r : Rule). r.holds) rs)
row_zero some First.none = (λ e. tt, λ h. refl)
row_zero some (here {r} {rs} g) = (λ e. absurd ((numbered r.number (all_numbered rs) some).0 e), λ h. absurd (h.0 g))
row_zero some (later {r} {rs} g f) =
    let rest = row_zero (numbered r.number (all_numbered rs) some).1 f in
    (λ e. (g, rest.0 e), λ h. rest.1 h.1)
