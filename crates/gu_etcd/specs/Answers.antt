-- What etcd answers, in JSON. A field of the default value is left out: `false`, an empty value, no pairs.
use Rattle.std.specs.Prelude.{◌≡◌, ℕ, List, [], codes, Option, Some, None, true, Ok, MatchOption, option_and_then}
use Rattle.std.specs.Str.Parse.{IsNumeral, digits_value, without_leading_plus}
use Rattle.base64.specs.Engines.{standard}
use Rattle.base64.specs.GeneralPurpose.{decode_of}
use Rattle.serde_json.specs.Data.{Data}
use Rattle.serde_json.specs.Find.{get, at, as_bool, as_str}
use Rattle.gu_etcd.specs.declared.granting.Granted.{Granted}
use Rattle.gu_etcd.specs.declared.leading.LeadAnswer.{LeadAnswer}
use Rattle.gu_etcd.specs.declared.leading.LeadAnswer.TheVariants.{Leads, IsLed}
use Rattle.gu_etcd.specs.declared.node.PutAnswer.{PutAnswer}
use Rattle.gu_etcd.specs.declared.node.PutAnswer.TheVariants.{Kept, Holds, NotLeading}

-- a transaction was carried out: its conditions held
abbrev pub IsCarriedOut : Data → Type 0
IsCarriedOut answer = option_and_then as_bool (get (codes "succeeded") answer) ≡ Some true

-- the range that a transaction asked for, as the first of its responses
abbrev pub range_in : Data → Option Data
range_in answer = option_and_then (get (codes "response_range")) (option_and_then (at 0) (get (codes "responses") answer))

-- the pairs of a range
abbrev pub pairs_in : Data → Option Data
pairs_in range = get (codes "kvs") range

-- the first pair of a range
abbrev pub first_pair : Data → Option Data
first_pair range = option_and_then (at 0) (pairs_in range)

-- the text of a value is base64 of these bytes; where it has none, the value is empty
abbrev pub IsValueText : Option Data → List ℕ → Type 0
IsValueText None bytes = bytes ≡ []
IsValueText (Some value) bytes = (text : List ℕ) × (as_str value ≡ Some text) × (decode_of standard text ≡ Ok bytes)

-- a pair has this value
abbrev pub HasValue : Data → List ℕ → Type 0
HasValue pair bytes = IsValueText (get (codes "value") pair) bytes

-- what a range says of the key that it asked for: the value there, or that there is none
abbrev pub SaysFound : Data → PutAnswer → Type 0
SaysFound range Kept = ⊥
SaysFound range (Holds there) = (pair : Data) × (first_pair range ≡ Some pair) × HasValue pair there.items
SaysFound range NotLeading = pairs_in range ≡ None

-- what the answer to a transaction that puts a batch says
abbrev pub SaysPut : Data → PutAnswer → Type 0
SaysPut answer Kept = IsCarriedOut answer
SaysPut answer (Holds there) = (range : Data) × (range_in answer ≡ Some range) × SaysFound range (Holds there)
SaysPut answer NotLeading = (range : Data) × (range_in answer ≡ Some range) × SaysFound range NotLeading

-- what the answer to a transaction that takes the leadership says
abbrev pub SaysLead : Data → LeadAnswer → Type 0
SaysLead answer Leads = IsCarriedOut answer
SaysLead answer (IsLed name) = (range : Data) × (range_in answer ≡ Some range) × ((pair : Data) × (first_pair range ≡ Some pair) × HasValue pair name.items)

-- the number in a field, which JSON has as a text of digits
pub record HasNumber (field : List ℕ) (answer : Data) (number : ℕ) : Type 0 where
  pub text : List ℕ
  pub is_there : option_and_then as_str (get field answer) ≡ Some text
  pub numeral : IsNumeral 10 (without_leading_plus text)
  pub number_is : digits_value 10 (without_leading_plus text) ≡ number

-- what the answer to a request for a lease says: its number and how many seconds it lasts
pub record SaysGranted (answer : Data) (granted : Granted) : Type 0 where
  pub lease : HasNumber (codes "ID") answer granted.lease
  pub seconds : HasNumber (codes "TTL") answer granted.seconds

-- what the answer to a request that a lease goes on says: how many seconds it lasts from the request on, and nothing if it has ended
pub record SaysAlive (answer : Data) (seconds : Option ℕ) : Type 0 where
  pub result : Data
  pub is_there : get (codes "result") answer ≡ Some result
  pub says : MatchOption seconds (get (codes "TTL") result ≡ None) (λ n. HasNumber (codes "TTL") result n)
