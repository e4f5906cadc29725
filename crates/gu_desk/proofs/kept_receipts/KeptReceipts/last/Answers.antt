use Rattle.gu_desk.proofs.Words.{◌≡◌, ap, sym, List, [], ◌∷◌, ◌++◌, IfSome, Option, Some, None, Bor, Receipt, receipts_in}
use Rattle.std.specs.Option.{option_copied, option_to_list}
use Rattle.gu_desk.specs.declared.kept_receipts.KeptReceipts.{KeptReceipts}
use Rattle.gu_desk.proofs.kept_receipts.KeptReceipts.last.Goals as goal

-- the last receipt is after the others
after_others : (kept : KeptReceipts) (o : Option (Bor Receipt)) → option_copied o ≡ kept.last
    → IfSome o (λ last. (earlier : List Receipt) × (receipts_in kept ≡ earlier ++ last.now ∷ []))
after_others kept None is = tt
after_others kept (Some last) is = (kept.earlier, ap (λ (l : Option Receipt). kept.earlier ++ option_to_list l) (sym is))

pub returns-clause-last : goal.returns-clause-last
returns-clause-last c = after_others c.args.self.now c.as_ref.result c.as_ref.ensures.value
