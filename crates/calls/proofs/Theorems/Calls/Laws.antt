-- One law for each way out of the calls. Assumes nothing.
use Rattle.std.specs.Prelude.{◌≡◌, Bool, not, ℕ, eqb, length, Ok, Err}
use Rattle.std.proofs.Math.Path.{refl, sym, ap}
use Rattle.std.proofs.Common.{◌∙◌, subst}
use Rattle.std.proofs.Math.Bool.{true, false, cond}
use mathlib.Core.List.{List, ◌∷◌}
use borrow.Author.Tests.{eqb-false, ne_eqb}
use Rattle.colour.specs.Refusal.{number_of_refusal, refusal_of}
use Rattle.colour.proofs.Theorems.Refusal.{number-some}
use Rattle.colour.specs.declared.refusal.Refusal.{Refusal}
use Rattle.colour.specs.Placed.{Reading}
use Rattle.text.specs.Put.{put_at}
use Rattle.ticket.specs.Ticket.{ticket_of, Parsed}
use Rattle.report.specs.Report.{report_text}
use Rattle.report.specs.Write.{has_room}
use Rattle.standard.specs.Refusals.{Fault, at_room, number_at, first, refusal}
use Rattle.standard.proofs.Theorems.Refusals.Laws.{first_zero, first_some, refusal-room}
use Rattle.standard.specs.Acceptance.{settings_of, Acceptance}
use Rattle.standard.specs.declared.accept.Standard.{Standard}
use Rattle.standard.specs.declared.judge.Judgement.{Judgement}
use Rattle.standard.specs.Judgement.{Outcome}
use Rattle.station.specs.Record.{store_in, decode}
use Rattle.station.specs.Record.Laws.{stays}
use Rattle.station.specs.Runs.{left}
use Rattle.calls.specs.Outcome.{loaded, load_faults, judged_by, judge_faults, ticket_outcome, ticket_faults}
use Rattle.calls.proofs.Theorems.Outcome.Load.{load-number, load-room}
use Rattle.calls.proofs.Theorems.Outcome.Judge.{judge-number, judge-room}
use Rattle.calls.proofs.Theorems.Outcome.Ticket.{ticket-number, ticket-room}
use Rattle.calls.specs.Calls.{Answer, Gives, writing, length_fault, load_call, room_fault, with_report, judge_call}
use Rattle.calls.specs.Calls.{ticket_call, reported}

-- ---- a load

module _ (xs : List ℕ) (formula white l c tolerance : ℕ) (r : Reading) where
  abbrev comes_to : Acceptance
  comes_to = loaded (settings_of formula white l c tolerance) r

  -- the length's fault comes last
  number_is :
      refusal (length_fault xs ∷ load_faults formula white l c tolerance r)
      ≡ first (refusal_of comes_to) (length_fault xs).number
  number_is =
      refusal-room _ _ (load-room l c tolerance r formula white)
      ∙ ap (λ (n : ℕ). first n (length_fault xs).number) (sym (load-number l c tolerance r formula white))

  module _ {a : Acceptance} (e : a ≡ comes_to) where
    pub load-call-refused :
        {w : Refusal} → a ≡ Err w → Gives (load_call xs formula white l c tolerance r) (number_of_refusal w) xs
    unfolding load_call
    load-call-refused {w} h =
        let told : comes_to ≡ Err w = sym e ∙ h in
        let some : number_of_refusal w ≡ 0 → ⊥ = number-some w in
        let is : refusal (length_fault xs ∷ load_faults formula white l c tolerance r) ≡ number_of_refusal w =
        number_is ∙ ap (λ (b : Acceptance). first (refusal_of b) (length_fault xs).number) told
        ∙ first_some _ some in
        record { number = sym is; bytes = rw (is, ne_eqb (number_of_refusal w) 0 some) }

    module _
        {s : Standard} (h : a ≡ Ok s) {b : Bool} (f : b ≡ eqb (length xs) 20)
        {ys : List ℕ} (g : ys ≡ store_in s xs)
      where
        told : comes_to ≡ Ok s
        told = sym e ∙ h

        by_length : refusal (length_fault xs ∷ load_faults formula white l c tolerance r) ≡ cond (not b) 10 0
        by_length =
            number_is ∙ ap (λ (k : Acceptance). first (refusal_of k) (length_fault xs).number) told ∙ rw (← f)

        pub load-call-stored : b ≡ true → Gives (load_call xs formula white l c tolerance r) 0 ys
        unfolding load_call
        load-call-stored t =
            let is : refusal (length_fault xs ∷ load_faults formula white l c tolerance r) ≡ 0 = by_length ∙ rw t in
            record { number = sym is; bytes = g ∙ rw (is, told) }

        pub load-call-other : b ≡ false → Gives (load_call xs formula white l c tolerance r) 10 ys
        unfolding load_call
        load-call-other t =
            let is : refusal (length_fault xs ∷ load_faults formula white l c tolerance r) ≡ 10 = by_length ∙ rw t in
            record { number = sym is; bytes = g ∙ sym (stays s xs (eqb-false _ 20 (sym f ∙ t))) ∙ rw is }

  -- the slice is what the acceptance leaves of it, whatever the number
  pub load-left : (load_call xs formula white l c tolerance r).bytes ≡ left xs comes_to
  load-left = go comes_to refl (eqb (length xs) 20) refl
    where
      go :
          (a : Acceptance) → a ≡ comes_to → (b : Bool) → b ≡ eqb (length xs) 20 →
          (load_call xs formula white l c tolerance r).bytes ≡ left xs a
      go (Err n) e b f = sym (load-call-refused e refl).bytes
      go (Ok s) e true f = sym (load-call-stored e refl f refl refl).bytes
      go (Ok s) e false f = sym (load-call-other e refl f refl refl).bytes

-- ---- a report

module _ (room : List ℕ) (column : ℕ) {o : Outcome} where
  pub reported-refused : {e : Refusal} → o ≡ Err e → Gives (reported o room column) (number_of_refusal e) room
  unfolding reported
  reported-refused {e} h =
      let n = number_of_refusal e in
      rw h (record { number = sym (first_zero n); bytes = go (eqb (first n 0) 0) })
    where
      go : (b : Bool) → room ≡ cond b room room
      go true = refl
      go false = refl

  pub reported-judged :
      {j : Judgement} {n : ℕ} {ys : List ℕ} → o ≡ Ok j → n ≡ cond (has_room room column j) 0 10 →
      ys ≡ cond (has_room room column j) (put_at room column (report_text j)) room →
      Gives (reported o room column) n ys
  unfolding reported
  reported-judged {j} h p q = rw h (go (has_room room column j) p q)
    where
      go :
          (b : Bool) {n : ℕ} {ys : List ℕ} → n ≡ cond b 0 10 → ys ≡ cond b (put_at room column (report_text j)) room →
          Gives (writing (first 0 (cond (not b) 10 0)) (put_at room column (report_text j)) room) n ys
      go true hn hy = record { number = hn; bytes = hy }
      go false hn hy = record { number = hn; bytes = hy }

-- ---- both calls by what they come to: the room's fault comes last

module _ (fs : List Fault) (o : Outcome) (room : List ℕ) (column : ℕ) where
  pub reported_is :
      refusal_of o ≡ refusal fs → number_at fs at_room ≡ 0 →
      reported o room column ≡ writing (refusal (room_fault o room column ∷ fs)) (with_report o room column) room
  unfolding reported
  reported_is number none =
      ap (λ (n : ℕ). writing n (with_report o room column) room)
      (ap (λ (n : ℕ). first n (room_fault o room column).number) number
      ∙ sym (refusal-room fs (room_fault o room column).number none))

module _ (r : Reading) (room : List ℕ) (column : ℕ) (xs : List ℕ) where
  pub judge_call_is : judge_call xs r room column ≡ reported (judged_by (decode xs) r) room column
  unfolding judge_call
  judge_call_is =
      let station = decode xs in
      let number = judge-number station r in
      sym (reported_is (judge_faults station r) (judged_by station r) room column number (judge-room station r))

  pub judge_call_gives :
      {o : Outcome} {n : ℕ} {ys : List ℕ} →
      o ≡ judged_by (decode xs) r → Gives (reported o room column) n ys → Gives (judge_call xs r room column) n ys
  judge_call_gives {n = n} {ys = ys} e g =
      subst (λ (a : Answer). Gives a n ys) (ap (λ (q : Outcome). reported q room column) e ∙ sym judge_call_is) g

module _ (text room : List ℕ) (column : ℕ) where
  pub ticket_call_is : ticket_call text room column ≡ reported (ticket_outcome (ticket_of text)) room column
  unfolding ticket_call
  ticket_call_is =
      let p = ticket_of text in
      sym (reported_is (ticket_faults p) (ticket_outcome p) room column (ticket-number p) (ticket-room p))

  pub ticket_call_gives :
      {p : Parsed} {o : Outcome} {n : ℕ} {ys : List ℕ} →
      p ≡ ticket_of text → o ≡ ticket_outcome p → Gives (reported o room column) n ys →
      Gives (ticket_call text room column) n ys
  ticket_call_gives {n = n} {ys = ys} d e g =
      subst (λ (a : Answer). Gives a n ys)
      (ap (λ (q : Outcome). reported q room column) (e ∙ ap ticket_outcome d) ∙ sym ticket_call_is) g
