-- Puts in a row are one put. A row of texts is written as a list of them, so that each step of a writer takes the first
-- of what is left. Assumes nothing.
use Rattle.std.specs.Prelude.{◌≡◌, refl, List, [], ◌∷◌, ◌++◌, ℕ, suc, ◌+◌, ◌-◌, ◌≤◌, length, take, drop, get_or, set}
use Rattle.std.proofs.Common.{sym, ap, ◌∙◌, subst, append_assoc, append-nil, arith, add-one, add-zero, zero-add, add_assoc, length-append, length-take, length-drop, take-append-drop, drop_of_length-le, take_all, take_at, drop-drop, take-suc, length-take-le}
use Rattle.std.proofs.Math.Seq.{paste, take-length, drop-append-add}
use Rattle.std.proofs.lemmas.List.{set_at}
use Rattle.text.specs.Ascii.{ascii}
use Rattle.text.specs.Put.{put_at, Room, Puts, joined, line}

-- ---- one put

-- what stood before, s, what stood after
pub put_spelled : (xs : List ℕ) (at : ℕ) (s : List ℕ) → put_at xs at s ≡ take at xs ++ s ++ drop (at + length s) xs
unfolding put_at
put_spelled xs at s = refl

pub put-length : (xs : List ℕ) (at : ℕ) (s : List ℕ) → at + length s ≤ length xs → length (put_at xs at s) ≡ length xs
unfolding put_at
put-length xs at s h = simp (length-append, length-take, length-drop) (omega arith)

-- what is left where s is pasted over a part that is as long
pub paste_is_put : (xs : List ℕ) (at : ℕ) (s : List ℕ) → paste xs at s (length s) ≡ put_at xs at s
unfolding put_at
paste_is_put xs at s = rw take-length

-- nothing put is nothing changed
pub put-nil : (xs : List ℕ) (at : ℕ) → put_at xs at [] ≡ xs
unfolding put_at
put-nil xs at = simp (add-zero, append-nil) (take-append-drop at xs)

-- two in a row are one
pub put-put :
    (xs : List ℕ) (at : ℕ) (s t : List ℕ) → at + length s ≤ length xs →
    put_at (put_at xs at s) (at + length s) t ≡ put_at xs at (s ++ t)
unfolding put_at
put-put xs at s t h =
    let p : List ℕ = take at xs ++ s in
    let q : List ℕ = drop (at + length s) xs in
    let hp : length p ≡ at + length s = simp (length-append, length-take) (omega arith) in
    let front : take (at + length s) (p ++ q) ≡ p = take_at p q (at + length s) hp in
    let back : drop (at + length s + length t) (p ++ q) ≡ drop (at + (length s + length t)) xs =
    ap (λ (k : ℕ). drop (k + length t) (p ++ q)) (sym hp) ∙ drop-append-add p q (length t)
    ∙ drop-drop (length t) (at + length s) xs
    ∙ ap (λ (k : ℕ). drop k xs) (add_assoc at (length s) (length t)) in
    rw (front, back, length-append s t)
    (ap (λ (l : List ℕ). l ++ drop (at + (length s + length t)) xs) (append_assoc (take at xs) s t))

-- one byte more in front
pub put_before :
    (xs : List ℕ) (at : ℕ) (s : List ℕ) (b : ℕ) → at + 1 + length s ≤ length xs →
    set (put_at xs (at + 1) s) at b ≡ put_at xs at (b ∷ s)
unfolding put_at
put_before xs at s b h =
    let rest : List ℕ = drop (at + 1 + length s) xs in
    let same_rest : at + 1 + length s ≡ at + suc (length s) = omega arith in
    let split : take (at + 1) xs ≡ take at xs ++ (get_or xs at 0 ∷ []) =
    rw (add-one at) (take-suc xs at 0 (omega arith)) in
    let regroup : take (at + 1) xs ++ s ++ rest ≡ take at xs ++ get_or xs at 0 ∷ (s ++ rest) =
    rw split (simp append_assoc) in
    let stored = set_at (take at xs) (get_or xs at 0) (s ++ rest) b at (length-take-le at xs (omega arith)) in
    rw (← same_rest, regroup, stored) (sym (append_assoc (take at xs) (b ∷ s) rest))

-- The part of xs from index at to the end, lent and given back with s at its start: s stands in xs from index at on.
pub part-put : (xs : List ℕ) (at : ℕ) (s : List ℕ) → at + length s ≤ length xs →
    take at xs ++ (put_at (take (length xs - at) (drop at xs)) 0 s ++ drop (length xs - at) (drop at xs)) ≡ put_at xs at s
unfolding put_at
part-put xs at s h =
    let whole : take (length xs - at) (drop at xs) ≡ drop at xs =
    take_all (length xs - at) (drop at xs) (omega (arith, length-drop at xs)) in
    let rest : drop (length xs - at) (drop at xs) ≡ [] =
    drop_of_length-le (drop at xs) {i = length xs - at} (omega (arith, length-drop at xs)) in
    let regroup = sym (append_assoc (take at xs) s (drop (at + length s) xs)) in
    rw (rest, whole) (simp (zero-add, drop-drop) (ap (λ (l : List ℕ). take at xs ++ l) (append-nil _) ∙ regroup))

-- ---- what a writer goes by

pub puts_nil : (xs : List ℕ) (at : ℕ) → Puts xs at [] at xs
puts_nil xs at = record { end = sym (add-zero at); bytes = sym (put-nil xs at) }

-- one byte stored
pub puts_byte : (xs : List ℕ) (at b : ℕ) → Room xs at (b ∷ []) → Puts xs at (b ∷ []) (at + 1) (set xs at b)
puts_byte xs at b h =
    record {
      end = refl;
      bytes =
          ap (λ (l : List ℕ). set l at b) (sym (put-nil xs (at + 1)))
          ∙ put_before xs at [] b (omega (arith, h.room));
    }

pub puts_length : {xs ys s : List ℕ} {at r : ℕ} → Room xs at s → Puts xs at s r ys → length ys ≡ length xs
puts_length {xs} {s = s} {at = at} h p = ap length p.bytes ∙ put-length xs at s h.room

-- the same text under another name
pub room_as : {xs s t : List ℕ} {at : ℕ} → s ≡ t → Room xs at s → Room xs at t
room_as {xs} {s} {t} {at} e h = subst (λ (l : List ℕ). Room xs at l) e h

pub puts_as : {xs ys s t : List ℕ} {at r : ℕ} → s ≡ t → Puts xs at s r ys → Puts xs at t r ys
puts_as {xs} {ys} {s} {t} {at} {r} e p = subst (λ (l : List ℕ). Puts xs at l r ys) e p

-- An arm of a match on x, where x is y: what is put is y's text.
module _ {A : Type 0} (text : A → List ℕ) {x y : A} (e : x ≡ y) {xs : List ℕ} {at : ℕ} where
  pub room_in_arm : Room xs at (text x) → Room xs at (text y)
  room_in_arm h = room_as (ap text e) h

  pub puts_in_arm : {ys : List ℕ} {r : ℕ} → Puts xs at (text y) r ys → Puts xs at (text x) r ys
  puts_in_arm p = puts_as (sym (ap text e)) p

-- ---- lines

pub line-length : (key value : List ℕ) → length (line key value) ≡ length key + length value + 1
unfolding line
line-length key value = simp length-append (omega arith)

-- ---- a row of texts

-- xs has room for all of ss from index at on
pub record RoomForAll (xs : List ℕ) (at : ℕ) (ss : List (List ℕ)) : Type 0 where
  pub room : at + length (joined ss) ≤ length xs

-- all of ss are put into xs from index at
pub record PutsAll (xs : List ℕ) (at : ℕ) (ss : List (List ℕ)) (r : ℕ) (ys : List ℕ) : Type 0 where
  pub end : r ≡ at + length (joined ss)
  pub bytes : ys ≡ put_at xs at (joined ss)

pub room_for_all : {xs : List ℕ} {at : ℕ} (ss : List (List ℕ)) → Room xs at (joined ss) → RoomForAll xs at ss
room_for_all ss h = record { room = h.room }

pub puts_joined : {xs ys : List ℕ} {at r : ℕ} {ss : List (List ℕ)} → PutsAll xs at ss r ys → Puts xs at (joined ss) r ys
puts_joined p = record { end = p.end; bytes = p.bytes }

pub puts_none : (xs : List ℕ) (at : ℕ) → PutsAll xs at [] at xs
puts_none xs at = record { end = sym (add-zero at); bytes = sym (put-nil xs at) }

module _ {xs : List ℕ} {at : ℕ} {s : List ℕ} {ss : List (List ℕ)} (h : RoomForAll xs at (s ∷ ss)) where
  room_both : at + (length s + length (joined ss)) ≤ length xs
  room_both = rw length-append at h.room

  -- room for the first
  pub room_first : Room xs at s
  room_first = record { room = omega (arith, room_both) }

  -- once the first is put, room for the others
  pub room-rest : {r : ℕ} {ys : List ℕ} → Puts xs at s r ys → RoomForAll ys r ss
  room-rest p = record { room = omega (arith, room_both, p.end, puts_length room_first p) }

  -- the first and then the others
  pub puts_more : {r q : ℕ} {ys zs : List ℕ} → Puts xs at s r ys → PutsAll ys r ss q zs → PutsAll xs at (s ∷ ss) q zs
  puts_more {r} p n = record {
    end = rw (length-append s (joined ss)) (omega (arith, p.end, n.end));
    bytes =
        n.bytes ∙ ap (λ (l : List ℕ). put_at l r (joined ss)) p.bytes
        ∙ ap (λ (k : ℕ). put_at (put_at xs at s) k (joined ss)) p.end
        ∙ put-put xs at s (joined ss) room_first.room;
  }

-- ---- the same from the second to the fifth of a row

pub room-second :
    {xs ys s t : List ℕ} {ss : List (List ℕ)} {at a : ℕ} → RoomForAll xs at (s ∷ t ∷ ss) →
    Puts xs at s a ys → Room ys a t
room-second h p = room_first (room-rest h p)

pub room-third :
    {xs ys zs s t u : List ℕ} {ss : List (List ℕ)} {at a b : ℕ} → RoomForAll xs at (s ∷ t ∷ u ∷ ss) →
    Puts xs at s a ys → Puts ys a t b zs → Room zs b u
room-third h p q = room-second (room-rest h p) q

pub room-fourth :
    {xs ys zs vs s t u v : List ℕ} {ss : List (List ℕ)} {at a b c : ℕ} → RoomForAll xs at (s ∷ t ∷ u ∷ v ∷ ss) →
    Puts xs at s a ys → Puts ys a t b zs → Puts zs b u c vs → Room vs c v
room-fourth h p q r = room-third (room-rest h p) q r

pub puts_two :
    {xs ys zs s t : List ℕ} {at a b : ℕ} → RoomForAll xs at (s ∷ t ∷ []) →
    Puts xs at s a ys → Puts ys a t b zs → PutsAll xs at (s ∷ t ∷ []) b zs
puts_two h p q = puts_more h p (puts_more (room-rest h p) q (puts_none _ _))

pub puts_three :
    {xs ys zs vs s t u : List ℕ} {at a b c : ℕ} → RoomForAll xs at (s ∷ t ∷ u ∷ []) →
    Puts xs at s a ys → Puts ys a t b zs → Puts zs b u c vs → PutsAll xs at (s ∷ t ∷ u ∷ []) c vs
puts_three h p q r = puts_more h p (puts_two (room-rest h p) q r)

pub puts_four :
    {xs ys zs vs ws s t u v : List ℕ} {at a b c d : ℕ} → RoomForAll xs at (s ∷ t ∷ u ∷ v ∷ []) →
    Puts xs at s a ys → Puts ys a t b zs → Puts zs b u c vs → Puts vs c v d ws → PutsAll xs at (s ∷ t ∷ u ∷ v ∷ []) d ws
puts_four h p q r o = puts_more h p (puts_three (room-rest h p) q r o)

-- ---- a line in three puts: its key, what it says, its LF

module _ (key value : List ℕ) {xs : List ℕ} {at : ℕ} where
  line_row : Room xs at (line key value) → RoomForAll xs at (key ∷ value ∷ ascii "\n" ∷ [])
  unfolding line
  line_row h = room_for_all (key ∷ value ∷ ascii "\n" ∷ []) h

  pub line_key : Room xs at (line key value) → Room xs at key
  line_key h = room_first (line_row h)

  pub line_value : {a : ℕ} {ys : List ℕ} → Room xs at (line key value) → Puts xs at key a ys → Room ys a value
  line_value h p = room-second (line_row h) p

  pub line_end :
      {a b : ℕ} {ys zs : List ℕ} → Room xs at (line key value) → Puts xs at key a ys → Puts ys a value b zs →
      Room zs b (ascii "\n")
  line_end h p q = room-third (line_row h) p q

  pub puts_line :
      {a b c : ℕ} {ys zs vs : List ℕ} → Room xs at (line key value) → Puts xs at key a ys → Puts ys a value b zs →
      Puts zs b (ascii "\n") c vs → Puts xs at (line key value) c vs
  unfolding line
  puts_line h p q r = puts_joined (puts_three (line_row h) p q r)
