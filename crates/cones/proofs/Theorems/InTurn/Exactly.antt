-- WHICH ANSWER IT IS: refused with n at i exactly where element i is refused with n and all before it are taken; the
-- whole list of values exactly where each element is taken with the value at its place. Assumes nothing.
use Rattle.std.specs.Prelude.{◌≡◌, ◌↔◌, length, get_or, Ok, Err}
use Rattle.std.proofs.Math.Path.{refl, sym, ap}
use Rattle.std.proofs.Common.{◌∙◌, subst, not-suc-le-zero, zero-lt-suc, zero-add, add-suc, suc-add, arith}
use mathlib.Core.List.{List, [], ◌∷◌, Permᴰ}
use Prim.Native.Nat.{ℕ, zero, suc, ◌+◌, ◌<◌, suc-le-suc}
use Rattle.std.proofs.Math.Nat.{le_of_suc-le-suc, add-zero}
use Rattle.rounding.specs.Every.{Every}
use Rattle.rounding.specs.Every as E
use Rattle.colour.specs.declared.refusal.Refusal.{Refusal}
use Rattle.cones.specs.InTurn.{Turn, whole, refused, either, after, in_turn_from, in_turn}

pub data IsTaken {W : Type 0} : Turn W → Type 0 where
  is_taken : (v : W) → IsTaken (Ok v)

module _ {P W : Type 0} (turn : P → Turn W) where
  -- d is what a read past the end would be
  pub record FirstRefused (d : P) (ps : List P) (n : Refusal) (i : ℕ) : Type 0 where
    pub within : i < length ps
    pub here : turn (get_or ps i d) ≡ Err n
    pub before : (j : ℕ) → j < i → IsTaken (turn (get_or ps j d))

  -- element by element
  pub data AllTaken : List P → List W → Type 0 where
    none : AllTaken [] []
    more : {p : P} {v : W} {ps : List P} {vs : List W} → turn p ≡ Ok v → AllTaken ps vs → AllTaken (p ∷ ps) (v ∷ vs)

  pub taken-length : {ps : List P} {vs : List W} → AllTaken ps vs → length vs ≡ length ps
  taken-length none = refl
  taken-length (more e h) = ap suc (taken-length h)

  pub taken_at :
      {ps : List P} {vs : List W} → AllTaken ps vs → (i : ℕ) (d : P) (e : W) → i < length ps →
      turn (get_or ps i d) ≡ Ok (get_or vs i e)
  taken_at none i d e l = absurd (not-suc-le-zero l)
  taken_at (more h hs) zero d e l = h
  taken_at (more h hs) (suc i) d e l = taken_at hs i d e (le_of_suc-le-suc l)

  module _ (d : P) where
    -- ---- if

    refused_if : (ps : List P) (n : Refusal) (i k : ℕ) → FirstRefused d ps n i → in_turn_from turn k ps ≡ refused n (k + i)
    unfolding in_turn_from
    refused_if [] n i k h = absurd (not-suc-le-zero h.within)
    refused_if (p ∷ ps) n zero k h = rw (h.here, add-zero k)
    refused_if (p ∷ ps) n (suc i) k h =
        go (turn p) (h.before 0 (zero-lt-suc i))
        (refused_if ps n i (suc k)
        (record {
          within = le_of_suc-le-suc h.within;
          here = h.here;
          before = λ j l. h.before (suc j) (suc-le-suc l);
        }))
      where
        go :
            (t : Turn W) → IsTaken t → in_turn_from turn (suc k) ps ≡ refused n (suc k + i) →
            either t (λ (v : W). after (v ∷ []) (in_turn_from turn (suc k) ps)) (λ (m : Refusal). refused m k)
            ≡ refused n (k + suc i)
        go (Ok v) (is_taken w) rest = ap (after (v ∷ [])) rest ∙ ap (refused n) (suc-add k i ∙ sym (add-suc k i))
        go (Err m) t rest = elim t [ ]

    whole_if : {ps : List P} {vs : List W} (k : ℕ) → AllTaken ps vs → in_turn_from turn k ps ≡ whole vs
    unfolding in_turn_from
    whole_if k none = refl
    whole_if k (more {v = v} e h) = rw e (ap (after (v ∷ [])) (whole_if (suc k) h))

    -- ---- one of the two always is

    data OneOf (ps : List P) : Type 0 where
      all : (vs : List W) → AllTaken ps vs → OneOf ps
      first : (n : Refusal) (i : ℕ) → FirstRefused d ps n i → OneOf ps

    one_of : (ps : List P) → OneOf ps
    one_of [] = all [] none
    one_of (p ∷ ps) = go (turn p) refl (one_of ps)
      where
        go : (t : Turn W) → turn p ≡ t → OneOf ps → OneOf (p ∷ ps)
        go (Err n) g r =
            first n 0
            (record { within = zero-lt-suc (length ps); here = g; before = λ j l. absurd (not-suc-le-zero l) })
        go (Ok v) g (all vs h) = all (v ∷ vs) (more g h)
        go (Ok v) g (first n i h) =
            first n (suc i) (record { within = suc-le-suc h.within; here = h.here; before = before })
          where
            before : (j : ℕ) → j < suc i → IsTaken (turn (get_or (p ∷ ps) j d))
            before zero l = subst IsTaken (sym g) (is_taken v)
            before (suc j) l = h.before j (le_of_suc-le-suc l)

    -- ---- only if

    refused_only_if : (ps : List P) (n : Refusal) (i : ℕ) → in_turn turn ps ≡ refused n i → FirstRefused d ps n i
    refused_only_if ps n i h = go (one_of ps)
      where
        go : OneOf ps → FirstRefused d ps n i
        go (all vs g) = let e = whole_if 0 g in let no : ◌≡◌ {A = ℕ} 0 1 = cc in absurd (omega arith)
        go (first m j g) =
            let e = refused_if ps m j 0 g in
            let em : m ≡ n = cc in
            let ej : 0 + j ≡ i = cc in
            subst (λ (x : Refusal). FirstRefused d ps x i) em (subst (FirstRefused d ps m) (omega arith) g)

    whole_only_if : (ps : List P) (vs : List W) → in_turn turn ps ≡ whole vs → AllTaken ps vs
    whole_only_if ps vs h = go (one_of ps)
      where
        go : OneOf ps → AllTaken ps vs
        go (all us g) = let e = whole_if 0 g in let same : us ≡ vs = cc in subst (AllTaken ps) same g
        go (first m j g) = let e = refused_if ps m j 0 g in let no : ◌≡◌ {A = ℕ} 0 1 = cc in absurd (omega arith)

    -- THE FIRST REFUSED ELEMENT, EXACTLY THEN
    pub refused_exactly : (ps : List P) (n : Refusal) (i : ℕ) → in_turn turn ps ≡ refused n i ↔ FirstRefused d ps n i
    refused_exactly ps n i = (refused_only_if ps n i, λ f. refused_if ps n i 0 f ∙ ap (refused n) (zero-add i))

    -- ALL OF THEM, EXACTLY THEN
    pub whole_exactly : (ps : List P) (vs : List W) → in_turn turn ps ≡ whole vs ↔ AllTaken ps vs
    whole_exactly ps vs = (whole_only_if ps vs, whole_if 0)

  -- the values are determined
  pub taken_one : {ps : List P} {us vs : List W} → AllTaken ps us → AllTaken ps vs → us ≡ vs
  taken_one none none = refl
  taken_one (more {ps = ps} {vs = us} e h) (more {vs = vs} f g) =
      let rest = taken_one h g in
      cc

  -- elements that are all the same have one value
  pub taken_same :
      {q : P} {v : W} → turn q ≡ Ok v → {ps : List P} {vs : List W} → AllTaken ps vs →
      Every (λ (p : P). p ≡ q) ps → Every (λ (u : W). u ≡ v) vs
  taken_same e none E.none = E.none
  taken_same {v = v} e (more {v = u} h hs) (E.more p ps) =
      let f = ap turn p in
      let same : u ≡ v = cc in
      E.more same (taken_same e hs ps)

  -- IN ANOTHER ORDER all are taken too, with the same values in that order
  pub taken_perm :
      {ps qs : List P} {vs : List W} → Permᴰ ps qs → AllTaken ps vs →
      (us : List W) × (AllTaken qs us × Permᴰ vs us)
  taken_perm Permᴰ.nil none = ([], (none, Permᴰ.nil))
  taken_perm (Permᴰ.cons e d) (more {v = v} h hs) =
      let (us, (t, q)) = taken_perm d hs in
      (v ∷ us, (more (ap turn (sym e) ∙ h) t, Permᴰ.cons refl q))
  taken_perm (Permᴰ.swap e₁ e₂) (more {v = v} h (more {v = w} {vs = vs} g hs)) =
      (w ∷ v ∷ vs, (more (ap turn (sym e₂) ∙ g) (more (ap turn (sym e₁) ∙ h) hs), Permᴰ.swap refl refl))
  taken_perm (Permᴰ.trans d₁ d₂) h =
      let (us, (t, q)) = taken_perm d₁ h in
      let (ws, (s, r)) = taken_perm d₂ t in
      (ws, (s, Permᴰ.trans q r))
