use Rattle.gu_msgs.proofs.Words.{◌≡◌, ◌∙◌, ℕ, Some, ap, inr, map, subst, sym, err_from_is_err_and, lots_in_all, MeansLots, Line, body_rows, header_rows, Holds, Fault, AllocationInstruction, QUANTITY}
use Rattle.gu_msgs.proofs.AllocLemmas.{quantities, sum_of_lines}
use Rattle.gu_msgs.proofs.OutlineLemmas.{of_type, refused, sound_values}
use Rattle.gu_msgs.proofs.allocation_instruction.read_allocation_instruction.Goals as goal

pub returns-in_err-lines : goal.returns-in_err-lines
returns-in_err-lines c =
    refused AllocationInstruction c.args.outline.now _ c.in_err-lines.field-0.0 c.from_residual-in_err-lines.result c.requires.shaped
    (err_from_is_err_and _ c.from_residual-in_err-lines.ensures.1) c.in_err-lines.ensures

pub returns-then-get-lots : goal.returns-then-get-lots
unfolding header_rows body_rows
returns-then-get-lots c =
    let m = c.args.outline.now in
    let lines = c.in_ok-lines.lines in
    let whole = c.in_ok-quantity.quantity in
    let quantity : Holds QUANTITY (λ text. MeansLots text whole) m.fields = rw c.requires.shaped.is_kind at c.in_ok-quantity.ensures.0 in
    inr (inr (record {
      shape = c.requires.shaped.shape;
      values = sound_values AllocationInstruction m c.requires.shaped c.in_ok-lines.ensures.1;
      disagrees = (
        ap (λ (f : Fault). f.tag) c.fault_at.ensures,
        record {
          whole = whole;
          parts = map (λ (l : Line). l.lots) lines;
          quantities = quantities m.fields whole lines quantity c.in_ok-lines.ensures.0;
          differs = λ same. c.if-get-lots.true (c.get.ensures.number ∙ same ∙ sum_of_lines lines ∙ sym c.lots-2.ensures.lots);
        },
      );
      reason = ap (λ (f : Fault). f.reason) c.fault_at.ensures;
    }))

pub returns : goal.returns
unfolding header_rows body_rows
returns c =
    let m = c.args.outline.now in
    let lines = c.in_ok-lines.lines in
    let whole = c.in_ok-quantity.quantity in
    let quantity : Holds QUANTITY (λ text. MeansLots text whole) m.fields = rw c.requires.shaped.is_kind at c.in_ok-quantity.ensures.0 in
    let sums : whole ≡ lots_in_all lines = sym c.get.ensures.number ∙ c.if-get-lots.false ∙ c.lots-2.ensures.lots in
    let id = rw c.requires.shaped.is_kind at c.in_ok-alloc_id.ensures.0 in
    let exec = c.in_ok-exec_id.ensures.0 in
    rw c.in_ok-new.ensures (
      of_type AllocationInstruction m c.requires.shaped c.in_ok-lines.ensures.1 (record {
        whole = whole;
        parts = map (λ (l : Line). l.lots) lines;
        quantities = quantities m.fields whole lines quantity c.in_ok-lines.ensures.0;
        adds_up = sums ∙ sym (sum_of_lines lines);
      }),
      record {
        parts = record {
          alloc_id = id.first ∙ ap Some id.such;
          entry = exec.entry;
          one_exec = exec.one;
          exec_id = exec.says;
          allocs = c.in_ok-lines.ensures.0;
        };
        quantity = subst (λ (n : ℕ). Holds QUANTITY (λ text. MeansLots text n) m.fields) sums quantity;
      },
    )
