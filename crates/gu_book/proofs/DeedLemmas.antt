-- Effects that may be applied.
use Rattle.gu_book.proofs.Words.{◌≡◌, ◌<◌, true, List, Option, Some, None, Result, Ok, length, is_some, refl, sym, ap, ◌∙◌, subst, option_map, Command, Entry, Refusal, Accepted, Tables, answer, answer_in, is-accepted, MayDo, IsKept, state_in, Deed, IsDeedOf, done_by, reply_by, Totals}
use Rattle.gu_book.proofs.Accepting.{answer_is}

-- something is found if anything of it is
pub found-some : {X Y : Type 0} (f : X → Y) (o : Option X) (y : Y) → Some y ≡ option_map f o → is_some o ≡ true
found-some f None y e = cc
found-some f (Some x) y e = refl

-- the effect decided for a command of one kind may be applied; it gives the command's answer, and is its effect
pub may-do : {D : Type 0} → (does : D → Deed) → (reference : Tables) (history : List Entry) (totals : Totals) (command asked : Command) (decided : Result D Refusal) (deed : D) → command ≡ asked
    → IsKept reference history totals → length history < 1000000 → decided ≡ Ok deed → reply_by does decided ≡ answer_in reference (state_in totals) asked → IsDeedOf reference totals asked (does deed)
    → (Accepted (done_by (does deed)) ≡ answer reference history command) × (MayDo reference totals (does deed) × IsDeedOf reference totals command (does deed))
may-do does reference history totals command asked decided deed same kept room ok told is =
    let reply : Accepted (done_by (does deed)) ≡ answer reference history command =
    ap (reply_by does) (sym ok) ∙ told ∙ ap (answer_in reference (state_in totals)) (sym same) ∙ answer_is reference history totals command kept.beside in
    let its : IsDeedOf reference totals command (does deed) = subst (λ (c : Command). IsDeedOf reference totals c (does deed)) (sym same) is in
    (reply, (record { command = command; may = record { history = history; kept = kept; accepted = is-accepted reference history command (Accepted (done_by (does deed))) room reply refl }; is = its }, its))
