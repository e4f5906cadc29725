use Rattle.gu_msgs.proofs.Words.{◌≡◌, ◌<◌, ◌∙◌, ℕ, None, arith, refl, subst, sym, Outlined, tag_at, shape_fault, header_rows, first_value, only_value}
use Rattle.gu_msgs.proofs.OnlyValues.{matched, only_is_first}
use Rattle.gu_msgs.proofs.OutlineLemmas.{in_header}
use Rattle.gu_msgs.proofs.outline.Outline.header_in.Goals as goal

pub required-requires : goal.required-requires
unfolding header_rows
required-requires c = record { within = in_header c.args.self.now.kind 2 (omega arith); required = refl }

pub required-requires-2 : goal.required-requires-2
unfolding header_rows
required-requires-2 c = record { within = in_header c.args.self.now.kind 3 (omega arith); required = refl }

pub required-requires-3 : goal.required-requires-3
unfolding header_rows
required-requires-3 c = record { within = in_header c.args.self.now.kind 4 (omega arith); required = refl }

pub required-requires-4 : goal.required-requires-4
unfolding header_rows
required-requires-4 c = record { within = in_header c.args.self.now.kind 5 (omega arith); required = refl }

pub text-requires : goal.text-requires
text-requires c = in_header c.args.self.now.kind 7 (omega arith)

pub returns : goal.returns
unfolding header_rows
returns c =
    let m = c.args.self.now in
    let shape : shape_fault m.kind m.fields ≡ None = subst (λ (o : Outlined). shape_fault o.kind o.fields ≡ None) c.self.view_is c.self.invariant.shape in
    let once : (place : ℕ) → place < 10 → only_value (tag_at m place) m.fields ≡ first_value (tag_at m place) m.fields = λ place early. only_is_first m.kind m.fields place shape (in_header m.kind place early) in
    record {
      msg_type = sym c.required.ensures;
      sender = sym (once 3 (omega arith) ∙ c.required-2.ensures);
      target = sym (once 4 (omega arith) ∙ c.required-3.ensures);
      number = sym (once 5 (omega arith) ∙ c.required-4.ensures);
      poss_dup = matched c.text.result (λ bytes. bytes.now) _ c.text.ensures ∙ sym (once 7 (omega arith));
    }
