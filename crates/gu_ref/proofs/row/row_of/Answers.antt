use Rattle.gu_ref.proofs.Words.{◌∙◌, sym, ap, option_map, name_in}
use Rattle.gu_ref.proofs.RowReading.{no_kind, no_first, one, no_second, two, no_third, three_names, too_long}
use Rattle.gu_ref.proofs.row.row_of.Goals as goal

pub returns-in_default : goal.returns-in_default
returns-in_default c = sym (no_kind _ (sym c.get.ensures.value ∙ ap (option_map (λ s. s.now)) c.in_default.is))

pub returns-in_default-name_in : goal.returns-in_default-name_in
returns-in_default-name_in c = sym (no_first _ (sym (ap name_in c.get-2.ensures.value) ∙ sym c.name_in.ensures ∙ c.in_default-name_in.is))

pub returns-then-len-eq2 : goal.returns-then-len-eq2
returns-then-len-eq2 c = c.one_name.ensures ∙ sym (one _ _ _ (sym c.get.ensures.value ∙ ap (option_map (λ s. s.now)) c.in-Some.is) (sym (ap name_in c.get-2.ensures.value) ∙ sym c.name_in.ensures ∙ c.in-Some-name_in.is) (sym c.len.ensures ∙ c.if-len-eq2.true))

pub returns-in_default-name_in-2 : goal.returns-in_default-name_in-2
returns-in_default-name_in-2 c = sym (no_second _ _ (sym (ap name_in c.get-2.ensures.value) ∙ sym c.name_in.ensures ∙ c.in-Some-name_in.is) (λ e. c.if-len-eq2.false (c.len.ensures ∙ e)) (sym (ap name_in c.get-3.ensures.value) ∙ sym c.name_in-2.ensures ∙ c.in_default-name_in-2.is))

pub returns-then-len-eq3 : goal.returns-then-len-eq3
returns-then-len-eq3 c = c.two_names.ensures ∙ sym (two _ _ _ _ (sym c.get.ensures.value ∙ ap (option_map (λ s. s.now)) c.in-Some.is) (sym (ap name_in c.get-2.ensures.value) ∙ sym c.name_in.ensures ∙ c.in-Some-name_in.is) (sym (ap name_in c.get-3.ensures.value) ∙ sym c.name_in-2.ensures ∙ c.in-Some-name_in-2.is) (sym c.len-2.ensures ∙ c.if-len-eq3.true))

pub returns-in_default-name_in-3 : goal.returns-in_default-name_in-3
returns-in_default-name_in-3 c = sym (no_third _ _ _ (sym (ap name_in c.get-2.ensures.value) ∙ sym c.name_in.ensures ∙ c.in-Some-name_in.is) (sym (ap name_in c.get-3.ensures.value) ∙ sym c.name_in-2.ensures ∙ c.in-Some-name_in-2.is) (λ e. c.if-len-eq3.false (c.len-2.ensures ∙ e)) (sym (ap name_in c.get-4.ensures.value) ∙ sym c.name_in-3.ensures ∙ c.in_default-name_in-3.is))

pub returns-then-len-eq4 : goal.returns-then-len-eq4
returns-then-len-eq4 c = c.three_names.ensures ∙ sym (three_names _ _ _ _ _ (sym c.get.ensures.value ∙ ap (option_map (λ s. s.now)) c.in-Some.is) (sym (ap name_in c.get-2.ensures.value) ∙ sym c.name_in.ensures ∙ c.in-Some-name_in.is) (sym (ap name_in c.get-3.ensures.value) ∙ sym c.name_in-2.ensures ∙ c.in-Some-name_in-2.is) (sym (ap name_in c.get-4.ensures.value) ∙ sym c.name_in-3.ensures ∙ c.in-Some-name_in-3.is) (sym c.len-3.ensures ∙ c.if-len-eq4.true))

pub returns : goal.returns
returns c = sym (too_long _ _ (sym (ap name_in c.get-4.ensures.value) ∙ sym c.name_in-3.ensures ∙ c.in-Some-name_in-3.is) (λ e. c.if-len-eq4.false (c.len-3.ensures ∙ e)))
