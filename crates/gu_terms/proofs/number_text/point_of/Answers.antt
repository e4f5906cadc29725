use Rattle.std.proofs.Common.{◌∙◌, ap, length, ◌==◌, unwrap_or}
use Rattle.gu_terms.proofs.FirstPlaces.{position_or_end}
use Rattle.gu_terms.proofs.number_text.point_of.Goals as goal

pub returns-clause-place : goal.returns-clause-place
returns-clause-place c =
    c.unwrap_or.ensures ∙ ap (λ place. unwrap_or place (length c.args.text.now)) c.find_point.ensures ∙ position_or_end (λ b. b == 46) c.args.text.now
