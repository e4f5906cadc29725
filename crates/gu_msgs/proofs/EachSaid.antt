-- Fields are a message, or they have a fault.
use Rattle.gu_msgs.proofs.Words.{◌≡◌, ◌⊎◌, inl, inr, ℕ, Bool, true, false, List, [], ◌∷◌, length, sum, codes, Option, None, Some, MatchOption, refl, sym, ap, ◌∙◌, arith, AllByRecursion, cases_Bool, year_of, month_of, day_of, lots_in_all, MeansLots, Day, Line, Side, Buy, Sell, TagValue, MSG_TYPE, Agrees, Disagrees, EndsRight, number_at, IsFaultOf, IsFirstFault, untyped_fault, entries_of, AreSound, IsFirstAtFault, Item, message_items, IsAtFault, IsNumberWithin, IsSound, AreAllocs, GivesDay, IsFlag, IsOfType, Says, side_number, code_of, is_type_text, fault_at, shape_fault, body_rows, entry_rows, Holds, MayHold, first_value, Fault, Inbound, MsgType, SessionRejectReason, InvalidMsgType, ValueIsIncorrect, Kind, BEGIN_SEQ_NO, END_SEQ_NO, GAP_FILL_FLAG, HEART_BT_INT, NEW_SEQ_NO, NO_ALLOCS, NO_EXECS, NO_SIDES, QUANTITY, RESET_SEQ_NUM_FLAG, SIDE, TRADE_DATE, ALLOC_REPORT_ID}
use Rattle.gu_msgs.specs.Held.{AreHeld, IsWellMade}
use Rattle.gu_msgs.specs.declared.inbound.Inbound.TheVariants as inbound
use Rattle.gu_msgs.specs.declared.msg_type.MsgType.TheVariants as kind
use Rattle.gu_msgs.specs.declared.row.Kind.TheVariants as value
use Rattle.gu_msgs.proofs.AllocLemmas.{quantities, sum_of_lines}
use Rattle.gu_msgs.proofs.Decided.{IsDecided, le_decided, same_decided, sound_or_not, text_decided}
use Rattle.gu_msgs.proofs.HeldLemmas.{number_held, well_made}
use Rattle.gu_msgs.proofs.ItemLemmas.{behind_sound, fault_in_front}
use Rattle.gu_msgs.proofs.NoFault.{type_at, type_at-sum}

-- ---- values

text_or_not : (k : Kind) (text : Option (List ℕ)) → MatchOption text (Unit {0}) (IsSound k) ⊎ ((reason : SessionRejectReason) × MatchOption text ⊥ (λ t. IsAtFault k t reason))
text_or_not k None = inl tt
text_or_not k (Some text) = sound_or_not k text

-- values are all sound, or there is a first one that isn't
values_decided : (items : List Item) → AreSound items ⊎ ((fault : Fault) × IsFirstAtFault items fault)
values_decided [] = inl tt
values_decided (x ∷ xs) =
    elim (text_or_not x.kind x.text) [
      | inl sound ↦ elim (values_decided xs) [
        | inl others ↦ inl (sound, others)
        | inr found ↦ inr (found.0, behind_sound (x ∷ []) xs (sound, tt) (Some found.0) found.1)
      ]
      | inr bad ↦ inr (fault_at bad.0 x.tag, fault_in_front x xs (fault_at bad.0 x.tag) refl bad.1)
    ]

-- ---- the contents of well-formed fields

-- a value is `Y`, or it isn't
yes_decided : (found : Option (List ℕ)) → IsDecided (found ≡ Some (codes "Y"))
yes_decided None = inr (λ e. cc)
yes_decided (Some text) =
    elim (text_decided text (codes "Y")) [
      | inl set ↦ inl (ap Some set)
      | inr other ↦ inr (λ e. (let same : text ≡ codes "Y" = cc in other same))
    ]

-- a flag is true or false
flag_said : (tag : ℕ) (fields : List TagValue) → (b : Bool) × IsFlag tag fields b
flag_said tag fields = elim (yes_decided (first_value tag fields)) [ inl set ↦ (true, set) | inr unset ↦ (false, unset) ]

-- a day is given or not
day_said : (tag : ℕ) (fields : List TagValue) → MayHold tag (IsSound value.Date) fields → (day : Option Day) × GivesDay tag fields day
day_said tag fields held =
    let by : (found : Option (List ℕ)) → first_value tag fields ≡ found → MatchOption found (Unit {0}) (IsSound value.Date) → (day : Option Day) × GivesDay tag fields day = λ found. elim found as (λ v. first_value tag fields ≡ v → MatchOption v (Unit {0}) (IsSound value.Date) → (day : Option Day) × GivesDay tag fields day) [
      | None ↦ λ e h. (None, e)
      | Some text ↦ λ e h. (
        Some (record { year = year_of text; month = month_of text; day = day_of text; there = h.there }),
        record { value = text; first = e; such = record { is_text = h.is_text; year_is = refl; month_is = refl; day_is = refl } },
      )
    ] in
    by (first_value tag fields) refl held

-- a number of 1 or 2 is that of a side
side_said : (fields : List TagValue) → Holds SIDE (IsNumberWithin 1 2) fields → (side : Side) × (number_at SIDE fields ≡ side_number side)
side_said fields held =
    let range = number_held SIDE 1 2 fields held in
    elim (same_decided (number_at SIDE fields) 1) [
      | inl one ↦ (Buy, one)
      | inr other ↦ (Sell, elim (le_decided (number_at SIDE fields) 1) [ inl low ↦ absurd (other (omega (arith, range.0, low))) | inr high ↦ omega (arith, range.1, high) ])
    ]

-- one entry
one_of : (entries : List (List TagValue)) → length entries ≡ 1 → (entry : List TagValue) × (entries ≡ entry ∷ [])
one_of [] one = absurd (omega (arith, one))
one_of (entry ∷ []) one = (entry, refl)
one_of (entry ∷ other ∷ entries) one = absurd (omega (arith, one))

-- entries are lines
lines_said : (entries : List (List TagValue)) → AllByRecursion (AreHeld (entry_rows NO_ALLOCS)) entries → (lines : List Line) × AreAllocs entries lines
unfolding entry_rows
lines_said [] held = ([], tt)
lines_said (entry ∷ entries) held =
    let account = held.0.0 in
    let lots = held.0.1.0 in
    let others = lines_said entries held.1 in (
      (record { account = record { name = account.value }; lots = lots.such.0 }) ∷ others.0,
      (record { account = account.first; lots = record { value = lots.value; first = lots.first; such = lots.such.1 } }, others.1),
    )

-- a message of a type whose values agree
of_type : (k : MsgType) (fields : List TagValue) → IsWellMade k fields → Agrees k fields → IsOfType k fields
of_type k fields h agrees = record { code = h.code; faultless = record { shape = h.shape; values = h.values; agrees = agrees } }

-- the contents of fields of a type, or the value that doesn't agree with others
abbrev IsSaid : MsgType → List TagValue → Type 0
IsSaid k fields = ((m : Inbound) × Says fields m) ⊎ ((tag : ℕ) × Disagrees k fields tag)

resend_said : (fields : List TagValue) → IsWellMade kind.ResendRequest fields → IsSaid kind.ResendRequest fields
resend_said fields h =
    let begin = number_at BEGIN_SEQ_NO fields in
    let last = number_at END_SEQ_NO fields in
    let message : EndsRight fields → IsSaid kind.ResendRequest fields = λ ends.
    inl (inbound.ResendRequest (record { begin_seq_no = begin; end_seq_no = last }), (of_type kind.ResendRequest fields h ends, record { begin = refl; last = refl })) in
    elim (same_decided last 0) [
      | inl all ↦ message (inl all)
      | inr some ↦ elim (le_decided begin last) [
        | inl right ↦ message (inr right)
        | inr below ↦ inr (END_SEQ_NO, (refl, λ ends. elim ends [ inl all ↦ some all | inr right ↦ below right ]))
      ]
    ]

report_said : (fields : List TagValue) → IsWellMade kind.TradeCaptureReport fields → IsSaid kind.TradeCaptureReport fields
unfolding body_rows entry_rows
report_said fields h =
    let id = h.held.0 in
    let match_id = h.held.1.1.1.0 in
    let symbol = h.held.1.1.1.1.0 in
    let lots = h.held.1.1.1.1.1.0 in
    let price = h.held.1.1.1.1.1.1.0 in
    let day = day_said TRADE_DATE fields h.held.1.1.1.1.1.1.1.0 in
    let group = h.groups.1.1.1.1.1.1.1.1.0 in
    let number = number_held NO_SIDES 1 1 fields h.held.1.1.1.1.1.1.1.1.0 in
    let counted = group.counted (λ e. cc) in
    let entry = one_of (entries_of kind.TradeCaptureReport NO_SIDES fields) (omega (arith, counted, number.0, number.1)) in
    let own = (rw entry.1 at group.each).0 in
    let side = side_said entry.0 own.0 in
    let account = own.1.0 in
    inl (
      inbound.TradeCaptureReport (record {
        trade_report_id = id.value;
        trd_match_id = match_id.value;
        symbol = record { name = symbol.value };
        last_qty = lots.such.0;
        last_px = price.such.0;
        trade_date = day.0;
        side = side.0;
        account = record { name = account.value };
      }),
      (
        of_type kind.TradeCaptureReport fields h tt,
        record {
          report_id = id.first;
          match_id = match_id.first;
          symbol = symbol.first;
          quantity = record { value = lots.value; first = lots.first; such = lots.such.1 };
          price = record { value = price.value; first = price.first; such = price.such.1 };
          date = day.1;
          entry = entry.0;
          one_side = entry.1;
          is_side = record { side = side.1; account = account.first };
        },
      ),
    )

give_up_said : (fields : List TagValue) → IsWellMade kind.AllocationInstruction fields → IsSaid kind.AllocationInstruction fields
unfolding body_rows entry_rows
give_up_said fields h =
    let id = h.held.0 in
    let quantity = h.held.1.1.0 in
    let whole = quantity.such.0 in
    let held_whole : Holds QUANTITY (λ text. MeansLots text whole) fields = record { value = quantity.value; first = quantity.first; such = quantity.such.1 } in
    let execs = h.groups.1.1.1.0 in
    let number = number_held NO_EXECS 1 1 fields h.held.1.1.1.0 in
    let counted = execs.counted (λ e. cc) in
    let entry = one_of (entries_of kind.AllocationInstruction NO_EXECS fields) (omega (arith, counted, number.0, number.1)) in
    let exec = (rw entry.1 at execs.each).0.0 in
    let allocs = h.groups.1.1.1.1.0 in
    let lines = lines_said (entries_of kind.AllocationInstruction NO_ALLOCS fields) allocs.each in
    let all = quantities fields whole lines.0 held_whole lines.1 in
    elim (same_decided whole (lots_in_all lines.0)) [
      | inl same ↦ inl (
        inbound.AllocationInstruction (record { alloc_id = id.value; exec_id = exec.value; lines = lines.0 }),
        (
          of_type kind.AllocationInstruction fields h (record { whole = whole; parts = _; quantities = all; adds_up = same ∙ sym (sum_of_lines lines.0) }),
          record {
            parts = record { alloc_id = id.first; entry = entry.0; one_exec = entry.1; exec_id = exec.first; allocs = lines.1 };
            quantity = rw same at held_whole;
          },
        ),
      )
      | inr differs ↦ inr (QUANTITY, (refl, record { whole = whole; parts = _; quantities = all; differs = λ same. differs (same ∙ sum_of_lines lines.0) }))
    ]

said : (k : MsgType) (fields : List TagValue) → IsWellMade k fields → IsSaid k fields
unfolding body_rows
said kind.Heartbeat fields h = inl (inbound.Heartbeat, of_type kind.Heartbeat fields h tt)
said kind.TestRequest fields h =
    let id = h.held.0 in
    inl (inbound.TestRequest (record { test_req_id = id.value }), (of_type kind.TestRequest fields h tt, id.first))
said kind.ResendRequest fields h = resend_said fields h
said kind.Reject fields h = inl (inbound.Reject, of_type kind.Reject fields h tt)
said kind.SequenceReset fields h =
    let fill = flag_said GAP_FILL_FLAG fields in
    inl (
      inbound.SequenceReset (record { is_gap_fill = fill.0; new_seq_no = number_at NEW_SEQ_NO fields }),
      (of_type kind.SequenceReset fields h tt, record { gap_fill = fill.1; number = refl }),
    )
said kind.Logout fields h = inl (inbound.Logout, of_type kind.Logout fields h tt)
said kind.Logon fields h =
    let resets = flag_said RESET_SEQ_NUM_FLAG fields in
    inl (
      inbound.Logon (record { heart_bt_int = number_at HEART_BT_INT fields; resets_seq_num = resets.0 }),
      (of_type kind.Logon fields h tt, record { interval = refl; resets = resets.1 }),
    )
said kind.TradeCaptureReport fields h = report_said fields h
said kind.AllocationInstruction fields h = give_up_said fields h
said kind.AllocationReportAck fields h =
    let status = h.held.1.0 in
    let number = status.such.1 in
    inl (
      inbound.AllocationReportAck (record { alloc_report_id = number_at ALLOC_REPORT_ID fields; alloc_status = status.such.0 }),
      (of_type kind.AllocationReportAck fields h tt, record { offer = refl; status = rw status.first number.value }),
    )
said kind.RequestForPositions fields h =
    let id = h.held.0 in
    let account = h.held.1.1.0 in
    inl (
      inbound.RequestForPositions (record { pos_req_id = id.value; account = record { name = account.value } }),
      (of_type kind.RequestForPositions fields h tt, record { request_id = id.first; account = account.first }),
    )

-- ---- fields of a type

typed_said : (k : MsgType) (fields : List TagValue) → first_value MSG_TYPE fields ≡ Some (code_of k) → ((m : Inbound) × Says fields m) ⊎ ((fault : Fault) × IsFirstFault k fields fault)
typed_said k fields code =
    let Q : Type 0 = ((m : Inbound) × Says fields m) ⊎ ((fault : Fault) × IsFirstFault k fields fault) in
    let by : (found : Option Fault) → shape_fault k fields ≡ found → Q = λ found. elim found as (λ v. shape_fault k fields ≡ v → Q) [
      | Some fault ↦ λ e. inr (fault, inl e)
      | None ↦ λ e. elim (values_decided (message_items k fields)) [
        | inl sound ↦ elim (said k fields (well_made k fields code e sound)) [
          | inl message ↦ inl message
          | inr other ↦ inr (fault_at ValueIsIncorrect other.0, inr (inr (record { shape = e; values = sound; disagrees = other.1; reason = refl })))
        ]
        | inr first ↦ inr (first.0, inr (inl (record { shape = e; first = first.1 })))
      ]
    ] in
    by (shape_fault k fields) refl

-- a text is the code of a type that is read, or of none
type_decided : (text : List ℕ) → ((k : MsgType) × (text ≡ code_of k)) ⊎ ((k : MsgType) → text ≡ code_of k → ⊥)
type_decided text =
    let own = type_at (sum text) in
    elim (text_decided text (code_of own)) [
      | inl same ↦ inl (own, same)
      | inr other ↦ inr (λ k e. (let back : own ≡ k = ap (λ (t : List ℕ). type_at (sum t)) e ∙ type_at-sum k in other (e ∙ ap code_of (sym back))))
    ]

-- ---- the law

pub each_said : (fields : List TagValue) → ((m : Inbound) × Says fields m) ⊎ ((fault : Fault) × IsFaultOf fields fault)
each_said fields =
    let Q : Type 0 = ((m : Inbound) × Says fields m) ⊎ ((fault : Fault) × IsFaultOf fields fault) in
    let by : (found : Option (List ℕ)) → first_value MSG_TYPE fields ≡ found → Q = λ found. elim found as (λ v. first_value MSG_TYPE fields ≡ v → Q) [
      | None ↦ λ e. inr (untyped_fault fields, rw e refl)
      | Some text ↦ λ e. elim (cases_Bool (is_type_text text)) [
        | inr bad ↦ inr (fault_at InvalidMsgType MSG_TYPE, rw e (inl (bad, refl)))
        | inl sound ↦ elim (type_decided text) [
          | inl typed ↦ elim (typed_said typed.0 fields (e ∙ ap Some typed.1)) [
            | inl message ↦ inl message
            | inr first ↦ inr (first.0, rw e (inr (typed.0, typed.1, first.1)))
          ]
          | inr other ↦ inl (inbound.Unread text, record { stands = e; sound = sound; other = other })
        ]
      ]
    ] in
    by (first_value MSG_TYPE fields) refl
