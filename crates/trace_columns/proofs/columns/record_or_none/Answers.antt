use Rattle.std.proofs.Common.{◌∙◌, ap, arith, option_map}
use Rattle.csv.specs.Records.{fields_of}
use Rattle.trace_columns.proofs.CsvLaws.{first_record_le, found_fields, found_none}
use Rattle.trace_columns.proofs.columns.record_or_none.Goals as goal

pub returns-in-Some-clause-fields : goal.returns-in-Some-clause-fields
returns-in-Some-clause-fields c =
    found_fields c.args.text.now (option_map fields_of c.in_ok-fields.field-0) c.in_ok-fields.ensures.fields (fields_of c.in-Some.fields) (ap (option_map fields_of) c.in-Some.is)

pub returns-in-Some-clause-narrow : goal.returns-in-Some-clause-narrow
returns-in-Some-clause-narrow c =
    let same = found_fields c.args.text.now (option_map fields_of c.in_ok-fields.field-0) c.in_ok-fields.ensures.fields (fields_of c.in-Some.fields) (ap (option_map fields_of) c.in-Some.is) in
    rw same (let few = first_record_le c.args.text.now in omega (arith, few, c.requires))

pub returns-in-None-clause-fields : goal.returns-in-None-clause-fields
returns-in-None-clause-fields c =
    c.new.ensures.fields ∙ found_none c.args.text.now (option_map fields_of c.in_ok-fields.field-0) c.in_ok-fields.ensures.fields (ap (option_map fields_of) c.in-None.is)
