-- docs/SCOPE.md 8.1 to 8.3, "Each is given exactly then": a row for each call and each number that it can give. The
-- number is k exactly where the rule of k holds and none before it does, and 0 exactly where none holds. The rules of
-- settings and of the station's slice are in `station`'s Record/Exactly.antt, those of a reading in `colour`'s
-- Placed/Exactly.antt, those of a ticket's text in `ticket`'s Ticket/Grammar.antt, the first refused cone in `cones`'
-- Cones/Exactly.antt; `NoneOf` says that none of a list holds. Proofs are in Exactly/. Assumes nothing.
use Rattle.std.specs.Prelude.{◌≡◌, List, [], ◌∷◌, ◌++◌, ◌↔◌, ◌⊎◌, ℕ, ◌+◌, ◌<◌, Float, length, Ok, Some}
use Rattle.colour.specs.Placed.Exactly.{NotFinite, OutOfRange, Beyond, WrittenOutOfRange, WrittenBeyond}
use Rattle.colour.specs.White.{white_numbered}
use Rattle.colour.specs.Placed.{Reading}
use Rattle.colour.specs.declared.white.White.{White}
use Rattle.cones.proofs.Theorems.Cones.Exactly.{FirstBy, OutAlone, BeyondAlone}
use Rattle.ticket.specs.Ticket.{ticket_of}
use Rattle.ticket.specs.Ticket.Grammar.{WrongAt, Consists}
use Rattle.ticket.specs.declared.lines.Ticket.{Ticket}
use Rattle.report.specs.Report.{report_text}
use Rattle.standard.specs.declared.accept.Standard.{Standard}
use Rattle.standard.specs.declared.judge.Judgement.{Judgement}
use Rattle.standard.specs.Judgement.{Outcome}
use Rattle.station.specs.Record.{decode}
use Rattle.station.specs.Record.Exactly.{Outside, NoFormula, NoWhite, FactorsOut, ToleranceOut, NoStandard}
use Rattle.calls.specs.Outcome.{judged_by, ticket_outcome}
use Rattle.calls.specs.Calls.Numbers.{OneOf}
use Rattle.calls.specs.Exactly.First.{NoneOf}
pub mod First

-- ---- A LOAD: 1, 2, 3, 4, then the reference's 5, 6, 8, then 10

-- 8: beyond 256 in the white that is numbered
abbrev pub BeyondIn : (white : ℕ) → Reading → Type 0
BeyondIn white r = (w : White) × (white_numbered white ≡ Some w) × Beyond w r

-- 1 to 4
abbrev pub wrong_settings : (formula white l c tolerance : ℕ) → List (Type 0)
wrong_settings formula white l c tolerance =
    NoFormula formula ∷ NoWhite white ∷ FactorsOut l c ∷ ToleranceOut tolerance ∷ []

-- 1 to 8
abbrev pub wrong_load : (formula white l c tolerance : ℕ) → Reading → List (Type 0)
wrong_load formula white l c tolerance r =
    wrong_settings formula white l c tolerance ++ (NotFinite r ∷ OutOfRange r ∷ BeyondIn white r ∷ [])

pub record LoadRows (number formula white l c tolerance : ℕ) (r : Reading) : Type 0 where
  pub is_1 : number ≡ 1 ↔ NoFormula formula
  pub is_2 : number ≡ 2 ↔ (NoWhite white × NoneOf (NoFormula formula ∷ []))
  pub is_3 : number ≡ 3 ↔ (FactorsOut l c × NoneOf (NoFormula formula ∷ NoWhite white ∷ []))
  pub is_4 : number ≡ 4 ↔ (ToleranceOut tolerance × NoneOf (NoFormula formula ∷ NoWhite white ∷ FactorsOut l c ∷ []))
  pub is_5 : number ≡ 5 ↔ (NotFinite r × NoneOf (wrong_settings formula white l c tolerance))
  pub is_6 : number ≡ 6 ↔ (OutOfRange r × NoneOf (wrong_settings formula white l c tolerance ++ (NotFinite r ∷ [])))
  pub is_8 :
      number ≡ 8
      ↔ (BeyondIn white r × NoneOf (wrong_settings formula white l c tolerance ++ (NotFinite r ∷ OutOfRange r ∷ [])))

-- by value: no slice is lent, and so there is no 10
pub record LoadByValue (number formula white l c tolerance : ℕ) (r : Reading) : Type 0 where
  pub one_of : OneOf number (0 ∷ 1 ∷ 2 ∷ 3 ∷ 4 ∷ 5 ∷ 6 ∷ 8 ∷ [])
  pub rows : LoadRows number formula white l c tolerance r
  pub is_0 : number ≡ 0 ↔ NoneOf (wrong_load formula white l c tolerance r)

-- as a call on the station's slice xs
pub record LoadByCall (number : ℕ) (xs : List ℕ) (formula white l c tolerance : ℕ) (r : Reading) : Type 0 where
  pub one_of : OneOf number (0 ∷ 1 ∷ 2 ∷ 3 ∷ 4 ∷ 5 ∷ 6 ∷ 8 ∷ 10 ∷ [])
  pub rows : LoadRows number formula white l c tolerance r
  pub is_10 : number ≡ 10 ↔ (¬ (length xs ≡ 20) × NoneOf (wrong_load formula white l c tolerance r))
  pub is_0 : number ≡ 0 ↔ ((length xs ≡ 20) × NoneOf (wrong_load formula white l c tolerance r))

-- ---- A JUDGEMENT by what the slice xs holds: 9, then the test specimen's 5, 6, 8, then 10

-- 8: beyond 256 in the white of the standard
abbrev pub BeyondHeld : List ℕ → Reading → Type 0
BeyondHeld xs r = (s : Standard) × (decode xs ≡ Some s) × Beyond s.settings.white r

-- 9, 5, 6, 8
abbrev pub wrong_judgement : List ℕ → Reading → List (Type 0)
wrong_judgement xs r = NoStandard xs ∷ NotFinite r ∷ OutOfRange r ∷ BeyondHeld xs r ∷ []

-- 10: something is judged, and the room from the column on is shorter than its report
abbrev pub RoomShort : Outcome → (room : List ℕ) (column : ℕ) → Type 0
RoomShort o room column = (j : Judgement) × (o ≡ Ok j) × (length room < column + length (report_text j))

pub record JudgeRows (number : ℕ) (xs : List ℕ) (r : Reading) : Type 0 where
  pub is_9 : number ≡ 9 ↔ NoStandard xs
  pub is_5 : number ≡ 5 ↔ (NotFinite r × NoneOf (NoStandard xs ∷ []))
  pub is_6 : number ≡ 6 ↔ (OutOfRange r × NoneOf (NoStandard xs ∷ NotFinite r ∷ []))
  pub is_8 : number ≡ 8 ↔ (BeyondHeld xs r × NoneOf (NoStandard xs ∷ NotFinite r ∷ OutOfRange r ∷ []))

pub record JudgeByValue (number : ℕ) (xs : List ℕ) (r : Reading) : Type 0 where
  pub one_of : OneOf number (0 ∷ 5 ∷ 6 ∷ 8 ∷ 9 ∷ [])
  pub rows : JudgeRows number xs r
  pub is_0 : number ≡ 0 ↔ NoneOf (wrong_judgement xs r)

-- as a call that writes the report into a room from a column on
pub record JudgeByCall (number : ℕ) (xs : List ℕ) (r : Reading) (room : List ℕ) (column : ℕ) : Type 0 where
  pub one_of : OneOf number (0 ∷ 5 ∷ 6 ∷ 8 ∷ 9 ∷ 10 ∷ [])
  pub rows : JudgeRows number xs r
  pub is_10 : number ≡ 10 ↔ (RoomShort (judged_by (decode xs) r) room column × NoneOf (wrong_judgement xs r))
  pub is_0 : number ≡ 0 ↔ NoneOf (wrong_judgement xs r ++ (RoomShort (judged_by (decode xs) r) room column ∷ []))

-- ---- A TICKET: 7, 3, 4, the reference's 6, 8, the test specimen's 6, 8, then 10. A decimal is always finite, and a
-- right ticket names a formula and a white

-- 7: the text has a first wrong line, or is too long
abbrev pub WrongText : List ℕ → Type 0
WrongText text = (line : ℕ) × WrongAt line text

-- the text consists of the lines of a ticket which has it
abbrev pub InTicket : List ℕ → (Ticket → Type 0) → Type 0
InTicket text P = (t : Ticket) × Consists t text × P t

module _ (text : List ℕ) where
  abbrev pub TicketFactorsOut : Type 0
  TicketFactorsOut = InTicket text (λ t. FactorsOut t.settings.l t.settings.c)

  abbrev pub TicketToleranceOut : Type 0
  TicketToleranceOut = InTicket text (λ t. ToleranceOut t.settings.tolerance)

  abbrev pub ReferenceOut : Type 0
  ReferenceOut = InTicket text (λ t. WrittenOutOfRange t.reference)

  abbrev pub ReferenceBeyond : Type 0
  ReferenceBeyond = InTicket text (λ t. WrittenBeyond t.settings.white t.reference)

  abbrev pub TestOut : Type 0
  TestOut = InTicket text (λ t. WrittenOutOfRange t.test)

  abbrev pub TestBeyond : Type 0
  TestBeyond = InTicket text (λ t. WrittenBeyond t.settings.white t.test)

  -- 7, 3, 4, and the reference's 6, 8
  abbrev pub wrong_reference : List (Type 0)
  wrong_reference = WrongText text ∷ TicketFactorsOut ∷ TicketToleranceOut ∷ ReferenceOut ∷ ReferenceBeyond ∷ []

  -- and the test specimen's 6, 8
  abbrev pub wrong_ticket : List (Type 0)
  wrong_ticket = wrong_reference ++ (TestOut ∷ TestBeyond ∷ [])

pub record TicketRows (number : ℕ) (text : List ℕ) : Type 0 where
  pub is_7 : number ≡ 7 ↔ WrongText text
  pub is_3 : number ≡ 3 ↔ (TicketFactorsOut text × NoneOf (WrongText text ∷ []))
  pub is_4 : number ≡ 4 ↔ (TicketToleranceOut text × NoneOf (WrongText text ∷ TicketFactorsOut text ∷ []))
  pub is_6 :
      number ≡ 6
      ↔ ((ReferenceOut text × NoneOf (WrongText text ∷ TicketFactorsOut text ∷ TicketToleranceOut text ∷ []))
      ⊎ (TestOut text × NoneOf (wrong_reference text)))
  pub is_8 :
      number ≡ 8
      ↔ ((ReferenceBeyond text
      × NoneOf (WrongText text ∷ TicketFactorsOut text ∷ TicketToleranceOut text ∷ ReferenceOut text ∷ []))
      ⊎ (TestBeyond text × NoneOf (wrong_reference text ++ (TestOut text ∷ []))))

pub record TicketByValue (number : ℕ) (text : List ℕ) : Type 0 where
  pub one_of : OneOf number (0 ∷ 3 ∷ 4 ∷ 6 ∷ 7 ∷ 8 ∷ [])
  pub rows : TicketRows number text
  pub is_0 : number ≡ 0 ↔ NoneOf (wrong_ticket text)

pub record TicketByCall (number : ℕ) (text room : List ℕ) (column : ℕ) : Type 0 where
  pub one_of : OneOf number (0 ∷ 3 ∷ 4 ∷ 6 ∷ 7 ∷ 8 ∷ 10 ∷ [])
  pub rows : TicketRows number text
  pub is_10 : number ≡ 10 ↔ (RoomShort (ticket_outcome (ticket_of text)) room column × NoneOf (wrong_ticket text))
  pub is_0 : number ≡ 0 ↔ NoneOf (wrong_ticket text ++ (RoomShort (ticket_outcome (ticket_of text)) room column ∷ []))

-- ---- A SORT: 11, 2, 3, then each cone in turn by 5, 6, 8

-- 11: not 2 to 256 cones, or lists of another length, or fewer entries of the result than cones
pub data WrongCount (xs ys zs : List Float) (room : ℕ) : Type 0 where
  of_count : Outside 2 256 (length xs) → WrongCount xs ys zs room
  of_room : room < length xs → WrongCount xs ys zs room
  of_second : ¬ (length ys ≡ length xs) → WrongCount xs ys zs room
  of_third : ¬ (length zs ≡ length xs) → WrongCount xs ys zs room

-- cone i has A, and all before it are accepted, in the white that is numbered
abbrev pub FirstIn : (white : ℕ) (A : White → Reading → Type 0) → List Reading → (i : ℕ) → Type 0
FirstIn white A rs i = (w : White) × (white_numbered white ≡ Some w) × FirstBy w (A w) rs i

abbrev pub SomeFirst : (white : ℕ) (A : White → Reading → Type 0) → List Reading → Type 0
SomeFirst white A rs = (i : ℕ) × FirstIn white A rs i

-- 5, 6, 8 of the first refused cone
module _ (white : ℕ) (rs : List Reading) where
  abbrev pub ConeNotFinite : Type 0
  ConeNotFinite = SomeFirst white (λ w. NotFinite) rs

  abbrev pub ConeOut : Type 0
  ConeOut = SomeFirst white (λ w. OutAlone w) rs

  abbrev pub ConeBeyond : Type 0
  ConeBeyond = SomeFirst white BeyondAlone rs

module _ (white l c : ℕ) (xs ys zs : List Float) (room : ℕ) where
  -- 11, 2, 3
  abbrev pub wrong_call : List (Type 0)
  wrong_call = WrongCount xs ys zs room ∷ NoWhite white ∷ FactorsOut l c ∷ []

  pub record SortRows (rs : List Reading) (number : ℕ) : Type 0 where
    pub one_of : OneOf number (0 ∷ 2 ∷ 3 ∷ 5 ∷ 6 ∷ 8 ∷ 11 ∷ [])
    pub is_11 : number ≡ 11 ↔ WrongCount xs ys zs room
    pub is_2 : number ≡ 2 ↔ (NoWhite white × NoneOf (WrongCount xs ys zs room ∷ []))
    pub is_3 : number ≡ 3 ↔ (FactorsOut l c × NoneOf (WrongCount xs ys zs room ∷ NoWhite white ∷ []))
    pub is_5 : number ≡ 5 ↔ (ConeNotFinite white rs × NoneOf wrong_call)
    pub is_6 : number ≡ 6 ↔ (ConeOut white rs × NoneOf (wrong_call ++ (ConeNotFinite white rs ∷ [])))
    pub is_8 :
        number ≡ 8 ↔ (ConeBeyond white rs × NoneOf (wrong_call ++ (ConeNotFinite white rs ∷ ConeOut white rs ∷ [])))
    pub is_0 :
        number ≡ 0
        ↔ NoneOf (wrong_call ++ (ConeNotFinite white rs ∷ ConeOut white rs ∷ ConeBeyond white rs ∷ []))

-- which cone: with 5, 6 or 8 the first refused one, and with any other number 0
pub record RefusedCone (white : ℕ) (rs : List Reading) (number cone : ℕ) : Type 0 where
  pub of_5 : number ≡ 5 → FirstIn white (λ w. NotFinite) rs cone
  pub of_6 : number ≡ 6 → FirstIn white (λ w. OutAlone w) rs cone
  pub of_8 : number ≡ 8 → FirstIn white BeyondAlone rs cone
  pub of_other : OneOf number (0 ∷ 2 ∷ 3 ∷ 11 ∷ []) → cone ≡ 0
