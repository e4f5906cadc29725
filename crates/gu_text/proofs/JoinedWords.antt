-- Words as a line, with the first word first.
use Rattle.std.proofs.Common.{◌≡◌, ◌≤◌, ◌++◌, ◌∷◌, [], ℕ, List, length, refl, arith}
use Rattle.gu_terms.specs.declared.limit_key.LimitKey.{LimitKey}
use Rattle.gu_terms.specs.declared.reply.Reply.{Reply}
use Rattle.gu_terms.specs.declared.reply.Reply.TheVariants.{Accepted, Denied}
use Rattle.gu_view.specs.declared.error.Unknown.{Unknown}
use Rattle.gu_view.specs.declared.error.Unknown.TheVariants.{Key, Offer}
use Rattle.gu_text.specs.Replies.{reply_words}
use Rattle.gu_text.specs.SheetText.{path_words}
use Rattle.gu_text.specs.Texts.{word, line_of}
use Rattle.gu_text.specs.Verdicts.{lacking_words}

-- a reply has words
pub reply_line : (first : List ℕ) (reply : Reply) → line_of (first ∷ reply_words reply) ≡ word first ++ line_of (reply_words reply)
reply_line first (Accepted done) = refl
reply_line first (Denied refusal) = refl

-- so has the part that the view lacks
pub lacking_line : (first : List ℕ) (lacking : Unknown) → line_of (first ∷ lacking_words lacking) ≡ word first ++ line_of (lacking_words lacking)
lacking_line first (Key key) = refl
lacking_line first (Offer offer) = refl

-- so has a path
pub path_line : (first : List ℕ) (path : List LimitKey) → 4 ≤ length path → line_of (first ∷ path_words path) ≡ word first ++ line_of (path_words path)
path_line first [] some = absurd (omega (arith, some))
path_line first (only ∷ []) some = absurd (omega (arith, some))
path_line first (executing ∷ agreement ∷ others) some = refl
