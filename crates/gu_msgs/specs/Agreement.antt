-- Values that must agree with others: EndSeqNo with BeginSeqNo, and Quantity with the sum of AllocQty.
use Rattle.std.specs.Prelude.{◌≡◌, ◌≢◌, ◌≤◌, ◌⊎◌, ℕ, List, [], ◌∷◌, sum, ⊤}
use Rattle.std.specs.List.{filter_map}
use Rattle.std.specs.Option.{option_map_or}
use Rattle.std.specs.Str.Parse.{digits_value}
use Rattle.gu_fix.specs.TagValue.{TagValue}
use Rattle.gu_terms.specs.NumberText.{MeansLots}
use Rattle.gu_msgs.specs.Groups.{entries_of}
use Rattle.gu_msgs.specs.Values.{Holds, first_value}
use Rattle.gu_msgs.specs.declared.msg_type.MsgType.{MsgType}
use Rattle.gu_msgs.specs.declared.msg_type.MsgType.TheVariants.{ResendRequest, AllocationInstruction}
use Rattle.gu_msgs.specs.declared.tags.TheConstants.{ALLOC_QTY, BEGIN_SEQ_NO, END_SEQ_NO, NO_ALLOCS, QUANTITY}

-- the number in a tag's value; 0 if the tag is absent
abbrev pub number_at : ℕ → List TagValue → ℕ
number_at tag fields = option_map_or (digits_value 10) (first_value tag fields) 0

-- the last number requested is 0, which means all, or isn't below the first
abbrev pub EndsRight : List TagValue → Type 0
EndsRight fields = (number_at END_SEQ_NO fields ≡ 0) ⊎ (number_at BEGIN_SEQ_NO fields ≤ number_at END_SEQ_NO fields)

-- these texts are these numbers of lots
abbrev pub AreLots : List (List ℕ) → List ℕ → Type 0
AreLots [] [] = ⊤
AreLots (text ∷ texts) (n ∷ ns) = MeansLots text n × AreLots texts ns
AreLots [] (n ∷ ns) = ⊥
AreLots (text ∷ texts) [] = ⊥

-- an allocation has this quantity, and these quantities of its lines
pub record HasQuantities (fields : List TagValue) (whole : ℕ) (parts : List ℕ) : Type 0 where
  pub quantity : Holds QUANTITY (λ text. MeansLots text whole) fields
  pub allocs : AreLots (filter_map (first_value ALLOC_QTY) (entries_of AllocationInstruction NO_ALLOCS fields)) parts

-- the quantity is the sum of the lines' quantities
pub record AddsUp (fields : List TagValue) : Type 0 where
  pub whole : ℕ
  pub parts : List ℕ
  pub quantities : HasQuantities fields whole parts
  pub adds_up : whole ≡ sum parts

-- the quantity isn't the sum of the lines' quantities
pub record Differs (fields : List TagValue) : Type 0 where
  pub whole : ℕ
  pub parts : List ℕ
  pub quantities : HasQuantities fields whole parts
  pub differs : whole ≢ sum parts

-- in a message of this type, the values that must agree do
abbrev pub Agrees : MsgType → List TagValue → Type 0
Agrees ResendRequest fields = EndsRight fields
Agrees AllocationInstruction fields = AddsUp fields
Agrees _ fields = ⊤

-- the value of this tag doesn't agree with others
abbrev pub Disagrees : MsgType → List TagValue → ℕ → Type 0
Disagrees ResendRequest fields tag = (tag ≡ END_SEQ_NO) × (¬ EndsRight fields)
Disagrees AllocationInstruction fields tag = (tag ≡ QUANTITY) × Differs fields
Disagrees _ fields tag = ⊥
