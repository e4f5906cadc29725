use Rattle.gu_ref.proofs.Words.{◌∙◌, sym, refl, ap, inl, inr, [], option_map, Reached, error_kind, strip_bom, fields_of, row_count}
use Rattle.gu_ref.proofs.FileLemmas.{accepted-none}
use Rattle.gu_ref.proofs.ReadSoFar.{more, passed_on, refused_row, refuses-failure, stops-flexible, whole}
use Rattle.gu_ref.proofs.reading.read_rows.Goals as goal

pub loop-fields-init : goal.loop-fields-init
unfolding Reached
loop-fields-init g c =
    let fr = c.from_reader-records.ensures in
    let e = c.has_headers.ensures in
    let f = c.flexible.ensures in
    let start = c.into_iter-fields-iterator.ensures.into_iter_gives in
    let rdr = c.into_byte_records-fields-items.ensures.rdr in
    let left = c.into_byte_records-fields-items.ensures.left in
    rw (start, rdr) (record {
      setup = record {
        trim = rw (f, e) at fr.trim ∙ c.new.ensures.trim;
        ready = inr (inr (rw (f, e) at fr.has_headers, fr.headers));
        turns_left = left;
        config = rw (f, e) at fr.config ∙ c.new.ensures.config;
        flexible = rw f at fr.flexible;
      };
      so_far = record {
        records = [];
        accepted = accepted-none;
        made = c.empty-reference.ensures;
        count = ap row_count c.empty-reference.ensures;
        reached = λ text known. (strip_bom text, fr.source ∙ ap (option_map strip_bom) known, (sym fr.state, refl));
      };
    })

pub loop-fields-preserved : goal.loop-fields-preserved
loop-fields-preserved g c =
    let inv = c.loop-fields.invariant in
    let s = rw (c.in-Some.is, c.in-Ok.is) at ((c.next.ensures.steps inv.setup.turns_left inv.setup.trim).0 inv.setup.ready) in
    let accepted = c.in_ok-accept-in-Ok.ensures.ok in
    record {
      setup = record { trim = s.0.3 ∙ inv.setup.trim; ready = inl s.1; turns_left = s.2; config = s.0.2 ∙ inv.setup.config; flexible = (rw (c.in-Some.is, c.in-Ok.is) at (c.next.ensures.steps inv.setup.turns_left inv.setup.trim).3) ∙ inv.setup.flexible };
      so_far = more g.R.Read.remaining c.loop-fields.fields-iterator.rdr c.next.new.self.rdr (g.R.Read.remaining c.args.reader) c.loop-fields.reference
          (fields_of c.in-Ok.fields) c.accept.new.self inv.setup.config inv.so_far s.0 accepted.0 accepted.1 accepted.2;
    }

pub returns-in_err-accept-in-Ok-clause-refused : goal.returns-in_err-accept-in-Ok-clause-refused
returns-in_err-accept-in-Ok-clause-refused g c =
    let inv = c.loop-fields.invariant in
    let s = rw (c.in-Some.is, c.in-Ok.is) at ((c.next.ensures.steps inv.setup.turns_left inv.setup.trim).0 inv.setup.ready) in
    let bytes = g.R.Read.remaining c.args.reader in
    let fault = c.in_err-accept-in-Ok.field-0.0 in
    passed_on bytes c.from_residual.result fault c.from_residual.ensures.1
    (refused_row g.R.Read.remaining c.loop-fields.fields-iterator.rdr c.next.new.self.rdr bytes c.loop-fields.reference (fields_of c.in-Ok.fields) fault inv.setup.config inv.so_far s.0 c.in_err-accept-in-Ok.ensures.err)

pub returns-in-Err-clause-accepted : goal.returns-in-Err-clause-accepted
returns-in-Err-clause-accepted g c = tt

pub returns-in-Err-clause-refused : goal.returns-in-Err-clause-refused
returns-in-Err-clause-refused g c = rw c.fault_of.ensures (refuses-failure (g.R.Read.remaining c.args.reader) (error_kind c.in-Err.error))

pub fault_of-requires : goal.fault_of-requires
fault_of-requires g c =
    let inv = c.loop-fields.invariant in
    let s = rw (c.in-Some.is, c.in-Err.is) at ((c.next.ensures.steps inv.setup.turns_left inv.setup.trim).0 inv.setup.ready) in
    stops-flexible g.R.Read.remaining c.loop-fields.fields-iterator.rdr c.next.new.self.rdr (error_kind c.in-Err.error) inv.setup.flexible s

pub returns-clause-accepted : goal.returns-clause-accepted
returns-clause-accepted g c =
    let inv = c.loop-fields.invariant in
    let s = rw c.in-None.is at ((c.next.ensures.steps inv.setup.turns_left inv.setup.trim).0 inv.setup.ready) in
    whole g.R.Read.remaining c.loop-fields.fields-iterator.rdr c.next.new.self.rdr (g.R.Read.remaining c.args.reader) c.loop-fields.reference
    inv.setup.config inv.so_far s
