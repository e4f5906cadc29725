-- The records given so far by a reader, and the reference that they make.
use Rattle.gu_ref.proofs.Words.{◌≡◌, ◌∙◌, sym, refl, ap, cond, true, false, ◌⊎◌, inl, inr, ℕ, ◌<◌, ◌+◌, List, [], ◌∷◌, ◌++◌, length, Option, None, Some, Result, Ok, Err, length-append, IsErrAnd, IfErr, ExplainsRead, Reached, ReadRecord, Ready, default_config, is_flexible, is_io, reader_config, reader_state, reader_trim, source_of, stops_reader, strip_bom, record_fault, AreAccepted, IsFirstFault, IsReadFrom, Refuses, row_count, with_record, reference_of, Tables}
use Rattle.csv.specs.declared.parser.State.TheVariants as st
use Rattle.csv.specs.declared.reader.Reader.{Reader}
use Rattle.csv.specs.declared.error.ErrorKind.{ErrorKind}
use Rattle.csv.specs.declared.error.ErrorKind.TheVariants as kind
use Rattle.csv.specs.declared.reader.Trim.TheVariants as trims
use Rattle.csv.proofs.ReadFacts.{rows-end, rows-more}
use Rattle.gu_ref.specs.declared.error.RefFault.{RefFault}
use Rattle.gu_ref.specs.declared.error.RefFault.TheVariants.{Memory, BadRow, Unknown, Twice, TooMany, ReadFault}
use Rattle.gu_ref.specs.Faults.{failure_of}
use Rattle.gu_ref.proofs.FileLemmas.{accepted-more, reference_of-more}

-- the records read from these bytes are accepted, and make this reference
pub record IsReadSoFar {R : Type 0} (rem : R → Option (List ℕ)) (reader : Reader R) (bytes : Option (List ℕ)) (reference : Tables) : Type 0 where
  pub records : List (List (List ℕ))
  pub accepted : AreAccepted records
  pub made : reference ≡ reference_of records
  pub count : row_count reference ≡ length records
  pub reached : (text : List ℕ) → bytes ≡ Some text → (rest : List ℕ) × (source_of rem reader ≡ Some rest)
      × Reached default_config st.StartRecord (strip_bom text) records (reader_state reader) rest

-- how the reader is set up
pub record IsSetUp {R : Type 0} (reader : Reader R) (turns : ℕ) : Type 0 where
  pub trim : reader_trim reader ≡ trims.None
  pub ready : Ready reader
  pub turns_left : 0 < turns
  pub config : reader_config reader ≡ default_config
  pub flexible : is_flexible reader ≡ true

module _ {R : Type 0} (rem : R → Option (List ℕ)) (old new : Reader R) (bytes : Option (List ℕ)) (reference : Tables) where
  -- one more accepted record
  pub more : (fields : List (List ℕ)) (after : Tables) → reader_config old ≡ default_config → IsReadSoFar rem old bytes reference → ReadRecord rem old new true fields
      → record_fault reference (row_count reference + 1) fields ≡ None → after ≡ with_record reference fields → row_count after ≡ row_count reference + 1
      → IsReadSoFar rem new bytes after
  more fields after config so_far read accepted is count =
      let line : row_count reference + 1 ≡ length so_far.records + 1 = ap (λ n. n + 1) so_far.count in
      record {
        records = so_far.records ++ fields ∷ [];
        accepted = accepted-more so_far.records fields so_far.accepted (rw (← so_far.made, ← line) accepted);
        made = is ∙ ap (λ t. with_record t fields) so_far.made ∙ sym (reference_of-more so_far.records fields);
        count = count ∙ line ∙ sym (length-append so_far.records (fields ∷ []));
        reached = λ text known.
            let before = so_far.reached text known in
            rows-more rem old new fields default_config st.StartRecord (strip_bom text) before.0 so_far.records config before.1 before.2 read;
      }

  -- one more record with a fault
  pub faulty : (fields : List (List ℕ)) (fault : RefFault) → reader_config old ≡ default_config → IsReadSoFar rem old bytes reference → ReadRecord rem old new true fields
      → record_fault reference (row_count reference + 1) fields ≡ Some fault → IsFirstFault bytes fault
  faulty fields fault config so_far read stands =
      let line : row_count reference + 1 ≡ length so_far.records + 1 = ap (λ n. n + 1) so_far.count in
      record {
        before = so_far.records;
        next = fields;
        begins = λ text known.
            let before = so_far.reached text known in
            let after = rows-more rem old new fields default_config st.StartRecord (strip_bom text) before.0 so_far.records config before.1 before.2 read in
            (reader_state new, after.0, after.2);
        accepted = so_far.accepted;
        stands = rw (← so_far.made, ← line) stands;
      }

  -- no records are left
  pub whole : reader_config old ≡ default_config → IsReadSoFar rem old bytes reference → ReadRecord rem old new false [] → IsReadFrom bytes reference
  whole config so_far read = record {
    records = so_far.records;
    whole = λ text known.
        let before = so_far.reached text known in
        (reader_state old, before.0, before.2, rows-end rem old new [] default_config before.0 config before.1 read);
    accepted = so_far.accepted;
    made = so_far.made;
  }

-- out of memory is a refusal, and so is a first fault
pub refuses : (bytes : Option (List ℕ)) (fault : RefFault) → (fault ≡ Memory) ⊎ IsFirstFault bytes fault → Refuses bytes fault
refuses bytes Memory h = tt
refuses bytes (BadRow line) (inl e) = cc
refuses bytes (BadRow line) (inr h) = h
refuses bytes (Unknown line) (inl e) = cc
refuses bytes (Unknown line) (inr h) = h
refuses bytes (Twice line) (inl e) = cc
refuses bytes (Twice line) (inr h) = h
refuses bytes TooMany (inl e) = cc
refuses bytes TooMany (inr h) = h
refuses bytes ReadFault h = tt

-- a failure to read records is a refusal
pub refuses-failure : (bytes : Option (List ℕ)) (why : ErrorKind) → Refuses bytes (failure_of why)
refuses-failure bytes why = elim (is_io why) as (λ is. Refuses bytes (cond is ReadFault Memory)) [ true ↦ tt | false ↦ tt ]

-- whatever stops a flexible reader of bytes before a record is a failure
pub stops-flexible : {R : Type 0} (rem : R → Option (List ℕ)) (old new : Reader R) (why : ErrorKind) → is_flexible old ≡ true → ExplainsRead rem old new false why → stops_reader why ≡ true
stops-flexible rem old new (kind.Io e) flexible why = refl
stops-flexible rem old new kind.OutOfMemory flexible why = refl
stops-flexible rem old new (kind.UnequalLengths pos expected len) flexible why = let no = why.0 in cc
stops-flexible rem old new (kind.Utf8 pos err) flexible why = let no = why.0 in cc
stops-flexible rem old new (kind.Serialize text) flexible why = absurd why
stops-flexible rem old new (kind.Deserialize pos err) flexible why = absurd why

-- a record refused for lack of memory or for its fault
pub refused_row : {R : Type 0} (rem : R → Option (List ℕ)) (old new : Reader R) (bytes : Option (List ℕ)) (reference : Tables) (fields : List (List ℕ)) (fault : RefFault)
    → reader_config old ≡ default_config → IsReadSoFar rem old bytes reference → ReadRecord rem old new true fields
    → (fault ≡ Memory) ⊎ (record_fault reference (row_count reference + 1) fields ≡ Some fault) → Refuses bytes fault
refused_row rem old new bytes reference fields fault config so_far read (inl e) = refuses bytes fault (inl e)
refused_row rem old new bytes reference fields fault config so_far read (inr e) =
    refuses bytes fault (inr (faulty rem old new bytes reference fields fault config so_far read e))

-- a fault that is passed on is still a refusal
pub passed_on : {T : Type 0} (bytes : Option (List ℕ)) (result : Result T RefFault) (fault : RefFault) → IsErrAnd result (λ e. e ≡ fault) → Refuses bytes fault
    → IfErr result (λ e. Refuses bytes e)
passed_on bytes (Ok x) fault h r = tt
passed_on bytes (Err e) fault h r = rw h r
