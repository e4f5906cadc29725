use Rattle.std.proofs.Common.{refl}
use Rattle.gu_text.specs.Words.{words_of}
use Rattle.gu_text.proofs.FormLemmas.{day_missed}
use Rattle.gu_text.proofs.script_forms.day_said.Goals as goal

pub returns-in-None-day_of : goal.returns-in-None-day_of
returns-in-None-day_of c = ((refl, day_missed (words_of c.args.words.now) c.in-Some.value.now c.in-Some.ensures c.in-None-day_of.ensures), refl)
