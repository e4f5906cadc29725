-- Equal versions mean equal views.
use Rattle.gu_rules.proofs.Words.{◌≡◌, List, length, take, sym, ap, ◌∙◌, take-append_seam, Entry, Group, Tables, IsLegal, version_of, group_view}
use mathlib.Core.List.{IsPrefix}
use Rattle.gu_rules.proofs.LegalLaws.{view-stays}
use Rattle.gu_rules.proofs.VersionLemmas.{equal_versions}

-- if a group has the same version after a prefix of a legal history and after the whole, it has the same view
pub equal_views : (reference : Tables) (front history : List Entry) (group : Group) → IsPrefix front history → IsLegal reference history
    → version_of front group ≡ version_of history group → group_view reference front group ≡ group_view reference history group
equal_views reference front history group begins legal same =
    let first : take (length front) history ≡ front = ap (take (length front)) (sym begins.1) ∙ take-append_seam front begins.0 in
    let versions : version_of (take (length front) history) group ≡ version_of history group = ap (λ (h : List Entry). version_of h group) first ∙ same in
    let quiet = (equal_versions history (length front) group).0 versions in
    sym (view-stays reference history (length front) group legal quiet ∙ ap (λ (h : List Entry). group_view reference h group) first)
