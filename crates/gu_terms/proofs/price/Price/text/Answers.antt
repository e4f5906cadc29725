use Rattle.gu_terms.specs.WrittenNumbers.{price_text}
use Rattle.gu_terms.proofs.WrittenMeanings.{price_text_means}
use Rattle.gu_terms.proofs.price.Price.text.Goals as goal

pub returns-clause-text : goal.returns-clause-text
unfolding price_text
returns-clause-text c = rw (c.with_fraction.ensures, c.whole_text-text.ensures.text, c.size_of-size.ensures.size)

pub returns-clause-means : goal.returns-clause-means
unfolding price_text
returns-clause-means c =
    rw (c.with_fraction.ensures, c.whole_text-text.ensures.text, c.size_of-size.ensures.size) (price_text_means c.args.self c.size_of-size.ensures.sound)
