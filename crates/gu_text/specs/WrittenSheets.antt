-- The sheet that a written sheet is read as.
use Rattle.std.specs.Prelude.{List, All, IsTrue, filter, map}
use Rattle.std.specs.List.{list_all}
use Rattle.gu_terms.specs.Cuts.{CutLists, has_number}
use Rattle.gu_terms.specs.LimitKeys.{has_key, name_of_key}
use Rattle.gu_terms.specs.Names.{is_name}
use Rattle.gu_terms.specs.Numbers.{IsOfferNo}
use Rattle.gu_terms.specs.Takes.{lots_of}
use Rattle.gu_terms.specs.declared.takes.Take.{Take}
use Rattle.gu_view.specs.View.{GroupView}
use Rattle.gu_text.specs.declared.sheet.Sheet.{Sheet}

-- a take from each offer of a view, with the lots taken from it, even if 0
abbrev pub takes_of : GroupView → List Take → List Take
takes_of view takes = map (λ o. record { offer = o.number; lots = lots_of takes o.number }) view.offers

-- the keys and the offers of a cut that the view has, in the order of the view
abbrev pub cut_of : GroupView → CutLists → CutLists
cut_of view cut =
    record {
      keys = map (λ r. r.key) (filter (λ r. has_key cut.keys r.key) view.rooms);
      offers = map (λ o. o.number) (filter (λ o. has_number cut.offers o.number) view.offers);
    }

-- the sheet: the same view, a take from each of its offers, and the cut in the order of the view
abbrev pub sheet_of : GroupView → List Take → CutLists → Sheet
sheet_of view takes cut = record { view = view; takes = takes_of view takes; cut = cut_of view cut }

-- the names of a view's group and of the keys on its paths are valid, and so are its offer numbers: the invariants of their types
pub record IsNamed (view : GroupView) : Type 0 where
  pub group : IsTrue (is_name view.group.name)
  pub numbers : All (λ o. IsOfferNo o.number) view.offers
  pub names : All (λ o. IsTrue (list_all (λ k. is_name (name_of_key k)) o.path)) view.offers
