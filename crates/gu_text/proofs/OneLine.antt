-- A script line says at most one thing.
use Rattle.std.proofs.Common.{◌≡◌, ◌∷◌, [], ◌∙◌, ℕ, List, Some, refl, sym, ap, subst}
use Rattle.gu_terms.specs.Days.{WritesDay}
use Rattle.gu_terms.specs.LimitKeys.{kind_of, name_of_key}
use Rattle.gu_terms.specs.NumberText.{MeansLots, MeansPrice}
use Rattle.gu_terms.specs.declared.command.Command.TheVariants.{OpenDay, SetLimit, ReportSide, GiveUp, Claim, Refuse, Reverse}
use Rattle.gu_terms.specs.declared.command.Reverse.{Reverse as ReverseOf}
use Rattle.gu_terms.specs.declared.command.Refuse.{Refuse as RefuseOf}
use Rattle.gu_terms.specs.declared.command.Claim.{Claim as ClaimOf}
use Rattle.gu_terms.specs.declared.command.GiveUp.{GiveUp as GiveUpOf}
use Rattle.gu_terms.specs.declared.command.ReportSide.{ReportSide as ReportSideOf}
use Rattle.gu_terms.specs.declared.command.SetLimit.{SetLimit as SetLimitOf}
use Rattle.gu_terms.specs.declared.command.OpenDay.{OpenDay as OpenDayOf}
use Rattle.gu_terms.specs.declared.account.AccountId.{AccountId}
use Rattle.gu_terms.specs.declared.group.Group.{Group}
use Rattle.gu_terms.specs.declared.lines.Line.{Line as GiveUpLine}
use Rattle.gu_terms.specs.declared.symbol.Symbol.{Symbol}
use Rattle.gu_world.specs.declared.step.Step.TheVariants.{Enter, See, Propose, Commit}
use Rattle.gu_text.specs.ScriptForms.{form_begun, form_of, form_word}
use Rattle.gu_text.specs.Scripts.{Says, WriteLines, Writes, side_word}
use Rattle.gu_text.specs.SheetLines.{number_of, offer_no_of}
use Rattle.gu_text.specs.declared.script_forms.Form.{Form}
use Rattle.gu_text.specs.declared.script_forms.Form.TheVariants as form
use Rattle.gu_text.specs.declared.script_line.Line.{Line}
use Rattle.gu_text.specs.declared.script_line.Line.TheVariants as line
use Rattle.gu_text.proofs.OneMeaning.{one_account, one_day, one_firm, one_group, one_key, one_lots, one_price, one_reject, one_side, one_symbol}
use Rattle.gu_text.proofs.ScriptLemmas.{begins, form_begun-word}

one_form : (words : List (List ℕ)) (a b : Line) → Writes words a → Writes words b → form_of a ≡ form_of b
one_form words a b p q =
    let m = begins words a p in
    let n = begins words b q in
    let same : form_word (form_of a) ≡ form_word (form_of b) = let e = sym m.1 ∙ n.1 in cc in
    let both : Some (form_of a) ≡ Some (form_of b) = sym (form_begun-word (form_of a)) ∙ ap form_begun same ∙ form_begun-word (form_of b) in
    cc

one_pair : (a b : GiveUpLine) → a.account ≡ b.account → a.lots ≡ b.lots → a ≡ b
one_pair a b accounts lots = λ i. record { account = accounts i; lots = lots i }

-- words are the lines of at most one give-up
lines_once : (words : List (List ℕ)) (a b : List GiveUpLine) → WriteLines words a → WriteLines words b → a ≡ b
lines_once [] [] [] p q = refl
lines_once [] [] (d ∷ b) p q = absurd q
lines_once [] (c ∷ a) b p q = absurd p
lines_once (account ∷ []) [] b p q = absurd p
lines_once (account ∷ []) (c ∷ a) b p q = absurd p
lines_once (account ∷ lots ∷ words) [] b p q = absurd p
lines_once (account ∷ lots ∷ words) (c ∷ a) [] p q = absurd q
lines_once (account ∷ lots ∷ words) (c ∷ a) (d ∷ b) p q =
    let first = one_pair c d (one_account c.account d.account (sym p.0 ∙ q.0)) (one_lots lots c.lots d.lots p.2 q.2) in
    let others = lines_once words a b p.3 q.3 in
    cc

-- the content of a line of a form
abbrev IsOf : Form → Line → Type 0
IsOf form.Day said = (it : OpenDayOf) × (said ≡ line.Step (Enter (OpenDay it)))
IsOf form.Limit said = (it : SetLimitOf) × (said ≡ line.Step (Enter (SetLimit it)))
IsOf form.Report said = (it : ReportSideOf) × (said ≡ line.Step (Enter (ReportSide it)))
IsOf form.GiveUp said = (it : GiveUpOf) × (said ≡ line.Step (Enter (GiveUp it)))
IsOf form.Claim said = (it : ClaimOf) × (said ≡ line.Step (Enter (Claim it)))
IsOf form.Refuse said = (it : RefuseOf) × (said ≡ line.Step (Enter (Refuse it)))
IsOf form.Reverse said = (it : ReverseOf) × (said ≡ line.Step (Enter (Reverse it)))
IsOf form.See said = (worker : ℕ) × (group : Group) × (said ≡ line.Step (See worker group))
IsOf form.Propose said = (worker : ℕ) × (said ≡ line.Step (Propose worker))
IsOf form.Commit said = (worker : ℕ) × (said ≡ line.Step (Commit worker))
IsOf form.Sweep said = (group : Group) × (said ≡ line.Sweep group)
IsOf form.Position said = (account : AccountId) × (symbol : Symbol) × (said ≡ line.Position account symbol)
IsOf form.Interest said = (symbol : Symbol) × (said ≡ line.Interest symbol)
IsOf form.Limits said = (group : Group) × (said ≡ line.Limits group)

of_form : (said : Line) → IsOf (form_of said) said
of_form (line.Step (Enter (OpenDay it))) = (it, refl)
of_form (line.Step (Enter (SetLimit it))) = (it, refl)
of_form (line.Step (Enter (ReportSide it))) = (it, refl)
of_form (line.Step (Enter (GiveUp it))) = (it, refl)
of_form (line.Step (Enter (Claim it))) = (it, refl)
of_form (line.Step (Enter (Refuse it))) = (it, refl)
of_form (line.Step (Enter (Reverse it))) = (it, refl)
of_form (line.Step (See worker group)) = (worker, group, refl)
of_form (line.Step (Propose worker)) = (worker, refl)
of_form (line.Step (Commit worker)) = (worker, refl)
of_form (line.Sweep group) = (group, refl)
of_form (line.Position account symbol) = (account, symbol, refl)
of_form (line.Interest symbol) = (symbol, refl)
of_form (line.Limits group) = (group, refl)

-- a line of the same form as another
alike : (a b : Line) → form_of a ≡ form_of b → IsOf (form_of a) b
alike a b forms = subst (λ f. IsOf f b) (sym forms) (of_form b)

-- words are at most one report
report_once : (words : List (List ℕ)) (a b : ReportSideOf) → Writes words (line.Step (Enter (ReportSide a))) → Writes words (line.Step (Enter (ReportSide b)))
    → line.Step (Enter (ReportSide a)) ≡ line.Step (Enter (ReportSide b))
report_once words a b p q =
    let e = sym p.2 ∙ q.2 in
    let firm_names : a.firm.name ≡ b.firm.name = cc in
    let ids : a.id ≡ b.id = cc in
    let match_ids : a.match_id ≡ b.match_id = cc in
    let letters : side_word a.side ≡ side_word b.side = cc in
    let symbol_names : a.symbol.name ≡ b.symbol.name = cc in
    let lots_texts : p.0 ≡ q.0 = cc in
    let price_texts : p.1 ≡ q.1 = cc in
    let account_names : a.account.name ≡ b.account.name = cc in
    let firms = one_firm a.firm b.firm firm_names in
    let sides = one_side a.side b.side letters in
    let symbols = one_symbol a.symbol b.symbol symbol_names in
    let same_lots = one_lots q.0 a.lots b.lots (subst (λ (t : List ℕ). MeansLots t a.lots) lots_texts p.6) q.6 in
    let prices = one_price q.1 a.price b.price (subst (λ (t : List ℕ). MeansPrice t a.price) price_texts p.7) q.7 in
    let days : a.day ≡ b.day = p.8 ∙ sym q.8 in
    let accounts = one_account a.account b.account account_names in
    λ i. line.Step (Enter (ReportSide (record {
      firm = firms i;
      id = ids i;
      match_id = match_ids i;
      symbol = symbols i;
      lots = same_lots i;
      price = prices i;
      day = days i;
      side = sides i;
      account = accounts i;
    })))

-- words are at most one give-up
give_up_once : (words : List (List ℕ)) (a b : GiveUpOf) → Writes words (line.Step (Enter (GiveUp a))) → Writes words (line.Step (Enter (GiveUp b)))
    → line.Step (Enter (GiveUp a)) ≡ line.Step (Enter (GiveUp b))
give_up_once words a b p q =
    let e = sym p.1 ∙ q.1 in
    let firm_names : a.firm.name ≡ b.firm.name = cc in
    let ids : a.id ≡ b.id = cc in
    let reports : a.report ≡ b.report = cc in
    let pairs : p.0 ≡ q.0 = cc in
    let firms = one_firm a.firm b.firm firm_names in
    let same_lines = lines_once q.0 a.lines b.lines (subst (λ (ws : List (List ℕ)). WriteLines ws a.lines) pairs p.5) q.5 in
    λ i. line.Step (Enter (GiveUp (record { firm = firms i; id = ids i; report = reports i; lines = same_lines i })))

-- words are at most one line
written_once : (words : List (List ℕ)) (a b : Line) → form_of a ≡ form_of b → Writes words a → Writes words b → a ≡ b
written_once words (line.Step (Enter (OpenDay it))) b forms p q =
    let w = alike (line.Step (Enter (OpenDay it))) b forms in
    let other = w.0 in
    let r : Writes words (line.Step (Enter (OpenDay other))) = subst (λ (l : Line). Writes words l) w.1 q in
    let same : p.0 ≡ r.0 = let e = sym p.1 ∙ r.1 in cc in
    let days = one_day r.0 it.day other.day (subst (λ (t : List ℕ). WritesDay t it.day.year it.day.month it.day.day) same p.2) r.2 in
    (λ i. line.Step (Enter (OpenDay (record { day = days i })))) ∙ sym w.1
written_once words (line.Step (Enter (SetLimit it))) b forms p q =
    let w = alike (line.Step (Enter (SetLimit it))) b forms in
    let other = w.0 in
    let r : Writes words (line.Step (Enter (SetLimit other))) = subst (λ (l : Line). Writes words l) w.1 q in
    let e = sym p.1 ∙ r.1 in
    let names : it.group.name ≡ other.group.name = cc in
    let kinds : kind_of it.key ≡ kind_of other.key = cc in
    let key_names : name_of_key it.key ≡ name_of_key other.key = cc in
    let texts : p.0 ≡ r.0 = cc in
    let value : Some it.lots ≡ Some other.lots = sym p.3 ∙ ap number_of texts ∙ r.3 in
    let groups = one_group it.group other.group names in
    let keys = one_key it.key other.key kinds key_names in
    let lots : it.lots ≡ other.lots = cc in
    (λ i. line.Step (Enter (SetLimit (record { group = groups i; key = keys i; lots = lots i })))) ∙ sym w.1
written_once words (line.Step (Enter (ReportSide it))) b forms p q =
    let w = alike (line.Step (Enter (ReportSide it))) b forms in
    report_once words it w.0 p (subst (λ (l : Line). Writes words l) w.1 q) ∙ sym w.1
written_once words (line.Step (Enter (GiveUp it))) b forms p q =
    let w = alike (line.Step (Enter (GiveUp it))) b forms in
    give_up_once words it w.0 p (subst (λ (l : Line). Writes words l) w.1 q) ∙ sym w.1
written_once words (line.Step (Enter (Claim it))) b forms p q =
    let w = alike (line.Step (Enter (Claim it))) b forms in
    let other = w.0 in
    let r : Writes words (line.Step (Enter (Claim other))) = subst (λ (l : Line). Writes words l) w.1 q in
    let e = sym p.1 ∙ r.1 in
    let names : it.firm.name ≡ other.firm.name = cc in
    let texts : p.0 ≡ r.0 = cc in
    let value : Some it.offer ≡ Some other.offer = sym p.3 ∙ ap offer_no_of texts ∙ r.3 in
    let firms = one_firm it.firm other.firm names in
    let offers : it.offer ≡ other.offer = cc in
    (λ i. line.Step (Enter (Claim (record { firm = firms i; offer = offers i })))) ∙ sym w.1
written_once words (line.Step (Enter (Refuse it))) b forms p q =
    let w = alike (line.Step (Enter (Refuse it))) b forms in
    let other = w.0 in
    let r : Writes words (line.Step (Enter (Refuse other))) = subst (λ (l : Line). Writes words l) w.1 q in
    let e = sym p.2 ∙ r.2 in
    let names : it.firm.name ≡ other.firm.name = cc in
    let texts : p.0 ≡ r.0 = cc in
    let why_texts : p.1 ≡ r.1 = cc in
    let value : Some it.offer ≡ Some other.offer = sym p.4 ∙ ap offer_no_of texts ∙ r.4 in
    let numbers = sym p.5 ∙ ap number_of why_texts ∙ r.5 in
    let whys = one_reject it.why other.why cc in
    let firms = one_firm it.firm other.firm names in
    let offers : it.offer ≡ other.offer = cc in
    (λ i. line.Step (Enter (Refuse (record { firm = firms i; offer = offers i; why = whys i })))) ∙ sym w.1
written_once words (line.Step (Enter (Reverse it))) b forms p q =
    let w = alike (line.Step (Enter (Reverse it))) b forms in
    let other = w.0 in
    let r : Writes words (line.Step (Enter (Reverse other))) = subst (λ (l : Line). Writes words l) w.1 q in
    let e = sym p.1 ∙ r.1 in
    let names : it.firm.name ≡ other.firm.name = cc in
    let texts : p.0 ≡ r.0 = cc in
    let value : Some it.offer ≡ Some other.offer = sym p.3 ∙ ap offer_no_of texts ∙ r.3 in
    let firms = one_firm it.firm other.firm names in
    let offers : it.offer ≡ other.offer = cc in
    (λ i. line.Step (Enter (Reverse (record { firm = firms i; offer = offers i })))) ∙ sym w.1
written_once words (line.Step (See worker group)) b forms p q =
    let w = alike (line.Step (See worker group)) b forms in
    let worker' = w.0 in
    let group' = w.1 in
    let r : Writes words (line.Step (See worker' group')) = subst (λ (l : Line). Writes words l) w.2 q in
    let e = sym p.1 ∙ r.1 in
    let names : group.name ≡ group'.name = cc in
    let texts : p.0 ≡ r.0 = cc in
    let value : Some worker ≡ Some worker' = sym p.2.0 ∙ ap number_of texts ∙ r.2.0 in
    let groups = one_group group group' names in
    let done : line.Step (See worker group) ≡ line.Step (See worker' group') = cc in
    done ∙ sym w.2
written_once words (line.Step (Propose worker)) b forms p q =
    let w = alike (line.Step (Propose worker)) b forms in
    let worker' = w.0 in
    let r : Writes words (line.Step (Propose worker')) = subst (λ (l : Line). Writes words l) w.1 q in
    let texts : p.0 ≡ r.0 = let e = sym p.1 ∙ r.1 in cc in
    let value : Some worker ≡ Some worker' = sym p.2.0 ∙ ap number_of texts ∙ r.2.0 in
    let done : line.Step (Propose worker) ≡ line.Step (Propose worker') = cc in
    done ∙ sym w.1
written_once words (line.Step (Commit worker)) b forms p q =
    let w = alike (line.Step (Commit worker)) b forms in
    let worker' = w.0 in
    let r : Writes words (line.Step (Commit worker')) = subst (λ (l : Line). Writes words l) w.1 q in
    let texts : p.0 ≡ r.0 = let e = sym p.1 ∙ r.1 in cc in
    let value : Some worker ≡ Some worker' = sym p.2.0 ∙ ap number_of texts ∙ r.2.0 in
    let done : line.Step (Commit worker) ≡ line.Step (Commit worker') = cc in
    done ∙ sym w.1
written_once words (line.Sweep group) b forms p q =
    let w = alike (line.Sweep group) b forms in
    let group' = w.0 in
    let r : Writes words (line.Sweep group') = subst (λ (l : Line). Writes words l) w.1 q in
    let names : group.name ≡ group'.name = let e = sym p.0 ∙ r.0 in cc in
    let done : line.Sweep group ≡ line.Sweep group' = ap line.Sweep (one_group group group' names) in
    done ∙ sym w.1
written_once words (line.Position account symbol) b forms p q =
    let w = alike (line.Position account symbol) b forms in
    let account' = w.0 in
    let symbol' = w.1 in
    let r : Writes words (line.Position account' symbol') = subst (λ (l : Line). Writes words l) w.2 q in
    let e = sym p.0 ∙ r.0 in
    let account_names : account.name ≡ account'.name = cc in
    let symbol_names : symbol.name ≡ symbol'.name = cc in
    let accounts = one_account account account' account_names in
    let symbols = one_symbol symbol symbol' symbol_names in
    let done : line.Position account symbol ≡ line.Position account' symbol' = cc in
    done ∙ sym w.2
written_once words (line.Interest symbol) b forms p q =
    let w = alike (line.Interest symbol) b forms in
    let symbol' = w.0 in
    let r : Writes words (line.Interest symbol') = subst (λ (l : Line). Writes words l) w.1 q in
    let names : symbol.name ≡ symbol'.name = let e = sym p.0 ∙ r.0 in cc in
    let done : line.Interest symbol ≡ line.Interest symbol' = ap line.Interest (one_symbol symbol symbol' names) in
    done ∙ sym w.1
written_once words (line.Limits group) b forms p q =
    let w = alike (line.Limits group) b forms in
    let group' = w.0 in
    let r : Writes words (line.Limits group') = subst (λ (l : Line). Writes words l) w.1 q in
    let names : group.name ≡ group'.name = let e = sym p.0 ∙ r.0 in cc in
    let done : line.Limits group ≡ line.Limits group' = ap line.Limits (one_group group group' names) in
    done ∙ sym w.1

-- a line has at most one content
pub said_once : (text : List ℕ) (a b : Line) → Says text a → Says text b → a ≡ b
said_once text a b p q = written_once _ a b (one_form _ a b p.writes q.writes) p.writes q.writes
