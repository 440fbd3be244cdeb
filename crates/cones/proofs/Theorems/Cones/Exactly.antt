-- docs/SCOPE.md 8.2, 13.5: EACH CONE IN TURN BY 5, 6, 8. The first refused cone decides, each number exactly then; the
-- rules of one reading are in `colour`'s Placed/Exactly.antt. Assumes nothing.
use Rattle.std.specs.Prelude.{◌≡◌, refl, List, ◌↔◌, ◌⊎◌, ℕ, ◌<◌, length, get_or, Ok, Err}
use Rattle.std.proofs.Common.{sym, subst}
use Rattle.colour.specs.Placed.{place, Placed, Reading}
use Rattle.colour.specs.Placed.Exactly.{NotFinite, OutOfRange, Beyond}
use Rattle.colour.proofs.Theorems.Placed.Exactly.Laws.{reading-rows}
use Rattle.colour.proofs.Theorems.Placed.Laws.{place-refused}
use Rattle.colour.specs.declared.conversion.GridColour.{GridColour}
use Rattle.colour.specs.declared.white.White.{White}
use Rattle.cones.specs.InTurn.{refused}
use Rattle.cones.proofs.Theorems.InTurn.Exactly.{IsTaken, is_taken, FirstRefused, refused_exactly}
use Rattle.cones.specs.Cones.{no_reading, turn_in, cones_in}
use Rattle.colour.specs.declared.refusal.Refusal.{Refusal}
use Rattle.colour.specs.declared.refusal.Refusal.TheVariants as Why

module _ (w : White) where
  -- no rule refuses it
  abbrev pub Accepted : Reading → Type 0
  Accepted r = ¬ (NotFinite r) × ¬ (OutOfRange r) × ¬ (Beyond w r)

  -- what refuses a reading with 6, and with 8: its rule, and none before it
  abbrev pub OutAlone : Reading → Type 0
  OutAlone r = OutOfRange r × ¬ (NotFinite r)

  abbrev pub BeyondAlone : Reading → Type 0
  BeyondAlone r = Beyond w r × ¬ (NotFinite r) × ¬ (OutOfRange r)

  -- cone i has A, and all before it are accepted
  pub record FirstBy (A : Reading → Type 0) (rs : List Reading) (i : ℕ) : Type 0 where
    pub within : i < length rs
    pub here : A (get_or rs i no_reading)
    pub before : (j : ℕ) → j < i → Accepted (get_or rs j no_reading)

  pub record ConeRows (rs : List Reading) (i : ℕ) : Type 0 where
    pub is_5 : cones_in w rs ≡ refused Why.NotANumber i ↔ FirstBy NotFinite rs i
    pub is_6 : cones_in w rs ≡ refused Why.OutOfRange i ↔ FirstBy OutAlone rs i
    pub is_8 : cones_in w rs ≡ refused Why.Beyond256 i ↔ FirstBy BeyondAlone rs i

  -- ---- the proof

  taken_exactly : (r : Reading) → IsTaken (turn_in w r) ↔ Accepted r
  taken_exactly r = (
    λ t. (reading-rows w r).is_placed.0 (placed (place w r) refl t),
    λ a. back ((reading-rows w r).is_placed.1 a),
  )
    where
      placed : (p : Placed) → place w r ≡ p → IsTaken p → (c : GridColour) × (place w r ≡ Ok c)
      placed (Ok c) e t = (c, e)
      placed (Err m) e t = elim t [ ]

      back : (c : GridColour) × (place w r ≡ Ok c) → IsTaken (turn_in w r)
      back (c, e) = subst (λ (p : Placed). IsTaken p) (sym e) (is_taken c)

  module _ (rs : List Reading) (i : ℕ) (n : Refusal) {A : Reading → Type 0} (rule : (r : Reading) → place w r ≡ Err n ↔ A r)
    where
      first_exactly : cones_in w rs ≡ refused n i ↔ FirstBy A rs i
      first_exactly = (
        λ e. to ((refused_exactly (turn_in w) no_reading rs n i).0 e),
        λ f. (refused_exactly (turn_in w) no_reading rs n i).1 (from f),
      )
        where
          to : FirstRefused (turn_in w) no_reading rs n i → FirstBy A rs i
          to f =
              record {
                within = f.within;
                here = (rule _).0 f.here;
                before = λ j l. (taken_exactly _).0 (f.before j l);
              }

          from : FirstBy A rs i → FirstRefused (turn_in w) no_reading rs n i
          from f =
              record {
                within = f.within;
                here = (rule _).1 f.here;
                before = λ j l. (taken_exactly _).1 (f.before j l);
              }

  -- THE FIRST REFUSED CONE AND ITS REFUSAL, EXACTLY THEN
  pub cone-rows : (rs : List Reading) (i : ℕ) → ConeRows rs i
  cone-rows rs i =
      record {
        is_5 = first_exactly rs i Why.NotANumber (λ r. (reading-rows w r).is_5);
        is_6 = first_exactly rs i Why.OutOfRange (λ r. (reading-rows w r).is_6);
        is_8 = first_exactly rs i Why.Beyond256 (λ r. (reading-rows w r).is_8);
      }

  -- and there is no other
  pub cone_refused_by :
      (rs : List Reading) {n : Refusal} {i : ℕ} → cones_in w rs ≡ refused n i →
      (n ≡ Why.NotANumber) ⊎ ((n ≡ Why.OutOfRange) ⊎ (n ≡ Why.Beyond256))
  cone_refused_by rs {n} {i} e =
      place-refused w (get_or rs i no_reading) ((refused_exactly (turn_in w) no_reading rs n i).0 e).here
