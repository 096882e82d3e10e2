-- `append` stores a node's record behind what is written: in each arm the form has these fields, so the record is the node's.
use native.Mathlib.Omega.{arith}
use Rattle.copier.proofs.Writers.{form_fits, appended_node}
use Rattle.copier.proofs.records.append.Goals as goal

pub append_record-requires : goal.append_record-requires
append_record-requires c = (omega arith, form_fits c.args.node c.form_of-form.result c.form_of-form.ensures c.in-Nothing.is c.requires)

pub append_record-requires-in-Word : goal.append_record-requires-in-Word
append_record-requires-in-Word c = (omega arith, form_fits c.args.node c.form_of-form.result c.form_of-form.ensures c.in-Word.is c.requires)

pub append_record-requires-in-One : goal.append_record-requires-in-One
append_record-requires-in-One c = (omega arith, form_fits c.args.node c.form_of-form.result c.form_of-form.ensures c.in-One.is c.requires)

pub append_record-requires-in-Two : goal.append_record-requires-in-Two
append_record-requires-in-Two c = (omega arith, form_fits c.args.node c.form_of-form.result c.form_of-form.ensures c.in-Two.is c.requires)

pub append_record-requires-in-Three : goal.append_record-requires-in-Three
append_record-requires-in-Three c = (omega arith, form_fits c.args.node c.form_of-form.result c.form_of-form.ensures c.in-Three.is c.requires)

pub returns-in-Nothing : goal.returns-in-Nothing
returns-in-Nothing c = appended_node c.args.node c.form_of-form.result c.form_of-form.ensures c.in-Nothing.is (cc) c.append_record.ensures

pub returns-in-Word : goal.returns-in-Word
returns-in-Word c = appended_node c.args.node c.form_of-form.result c.form_of-form.ensures c.in-Word.is (cc) c.append_record-in-Word.ensures

pub returns-in-One : goal.returns-in-One
returns-in-One c = appended_node c.args.node c.form_of-form.result c.form_of-form.ensures c.in-One.is (cc) c.append_record-in-One.ensures

pub returns-in-Two : goal.returns-in-Two
returns-in-Two c = appended_node c.args.node c.form_of-form.result c.form_of-form.ensures c.in-Two.is (cc) c.append_record-in-Two.ensures

pub returns-in-Three : goal.returns-in-Three
returns-in-Three c = appended_node c.args.node c.form_of-form.result c.form_of-form.ensures c.in-Three.is (cc) c.append_record-in-Three.ensures
