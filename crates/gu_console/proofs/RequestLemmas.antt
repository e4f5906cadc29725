-- What a line asks for.
use Rattle.std.proofs.Common.{ℕ, List}
use Rattle.gu_console.specs.Requests.{IsCut, IsPlainWord, IsWord}
use Rattle.gu_console.specs.declared.request.Request.{Request}
use Rattle.gu_console.specs.declared.request.Request.TheVariants as request

-- a line that is no plain word and cuts nothing is no word
pub no_word : (text : List ℕ) → ((asked : Request) → ¬ IsPlainWord text asked) → ((number : ℕ) → ¬ IsCut text number) → (asked : Request) → ¬ IsWord text asked
no_word text plain cut (request.Cut number) = cut number
no_word text plain cut asked = plain asked
