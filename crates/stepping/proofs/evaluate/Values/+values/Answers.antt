-- `value` and `truth` evaluate a node from its parts, whose numbers are lower.
use Rattle.std.proofs.Common.{ap, ◌∙◌, arith}
use Rattle.awhile.specs.Nodes.{sort_of}
use Rattle.awhile.proofs.Unnamed.{never_numeric, never_truth}
use Rattle.stepping.proofs.Evaluation.{asked_parts, call_child, call_pair, call_choice}
use Rattle.stepping.proofs.Evaluation.{value_number, value_variable, value_add, value_subtract, value_multiply, value_choice}
use Rattle.stepping.proofs.Evaluation.{truth_constant, truth_equal, truth_less, truth_not, truth_and}
use borrow.Enum.Refused.{opened}
use Rattle.stepping.proofs.evaluate.Values.+values.Goals as goal

pub truth-both_values-of-requires : goal.truth-both_values-of-requires
truth-both_values-of-requires t c = call_pair c.decreases (asked_parts c.requires c.in-Equal.ensures.admitted c.in-Equal.ensures.value)

pub truth-both_values-of-requires-in-Less : goal.truth-both_values-of-requires-in-Less
truth-both_values-of-requires-in-Less t c = call_pair c.decreases (asked_parts c.requires c.in-Less.ensures.admitted c.in-Less.ensures.value)

pub truth-is_false-requires : goal.truth-is_false-requires
truth-is_false-requires t c = call_child c.decreases (asked_parts c.requires c.in-Not.ensures.admitted c.in-Not.ensures.value)

pub truth-both_true-requires : goal.truth-both_true-requires
truth-both_true-requires t c = call_pair c.decreases (asked_parts c.requires c.in-And.ensures.admitted c.in-And.ensures.value)

pub truth-returns-in-Constant : goal.truth-returns-in-Constant
truth-returns-in-Constant t c = truth_constant _ _ _ (asked_parts c.requires c.in-Constant.ensures.admitted c.in-Constant.ensures.value)

pub truth-returns-in-Equal : goal.truth-returns-in-Equal
truth-returns-in-Equal t c = truth_equal _ _ _ c.both_values-of.ensures (asked_parts c.requires c.in-Equal.ensures.admitted c.in-Equal.ensures.value)

pub truth-returns-in-Less : goal.truth-returns-in-Less
truth-returns-in-Less t c = truth_less _ _ _ c.both_values-of-in-Less.ensures (asked_parts c.requires c.in-Less.ensures.admitted c.in-Less.ensures.value)

pub truth-returns-in-Not : goal.truth-returns-in-Not
truth-returns-in-Not t c = truth_not _ _ _ (asked_parts c.requires c.in-Not.ensures.admitted c.in-Not.ensures.value) c.is_false.ensures

pub truth-returns-in-And : goal.truth-returns-in-And
truth-returns-in-And t c = truth_and _ _ _ (asked_parts c.requires c.in-And.ensures.admitted c.in-And.ensures.value) c.both_true.ensures

pub truth-returns-in_default : goal.truth-returns-in_default
truth-returns-in_default t c = never_truth c.truth.result (opened c.in_default.in_default-own.keys6) (ap sort_of c.truth.ensures.value ∙ c.requires.is_sort)

pub value-overflow_mul-variable : goal.value-overflow_mul-variable
value-overflow_mul-variable t c = omega (arith, (asked_parts c.requires c.in-Variable.ensures.admitted c.in-Variable.ensures.value).0, c.args.self.now.long, c.well_formed)

pub value-whole_u32-requires : goal.value-whole_u32-requires
value-whole_u32-requires t c = omega (arith, (asked_parts c.requires c.in-Variable.ensures.admitted c.in-Variable.ensures.value).0, c.args.self.now.long)

pub value-both_values-of-requires : goal.value-both_values-of-requires
value-both_values-of-requires t c = call_pair c.decreases (asked_parts c.requires c.in-Add.ensures.admitted c.in-Add.ensures.value)

pub value-both_values-of-requires-in-Subtract : goal.value-both_values-of-requires-in-Subtract
value-both_values-of-requires-in-Subtract t c = call_pair c.decreases (asked_parts c.requires c.in-Subtract.ensures.admitted c.in-Subtract.ensures.value)

pub value-both_values-of-requires-in-Multiply : goal.value-both_values-of-requires-in-Multiply
value-both_values-of-requires-in-Multiply t c = call_pair c.decreases (asked_parts c.requires c.in-Multiply.ensures.admitted c.in-Multiply.ensures.value)

pub value-chosen-requires : goal.value-chosen-requires
value-chosen-requires t c = call_choice c.decreases (asked_parts c.requires c.in-Choice.ensures.admitted c.in-Choice.ensures.value)

pub value-returns-in-Number : goal.value-returns-in-Number
value-returns-in-Number t c = value_number _ _ _ (asked_parts c.requires c.in-Number.ensures.admitted c.in-Number.ensures.value)

pub value-returns-in-Variable : goal.value-returns-in-Variable
value-returns-in-Variable t c = value_variable _ _ _ (asked_parts c.requires c.in-Variable.ensures.admitted c.in-Variable.ensures.value) c.whole_u32.ensures

pub value-returns-in-Add : goal.value-returns-in-Add
value-returns-in-Add t c = value_add _ _ _ c.both_values-of.ensures (asked_parts c.requires c.in-Add.ensures.admitted c.in-Add.ensures.value)

pub value-returns-in-Subtract : goal.value-returns-in-Subtract
value-returns-in-Subtract t c = value_subtract _ _ _ c.both_values-of-in-Subtract.ensures (omega (arith, c.both_values-of-in-Subtract.type_inv)) (asked_parts c.requires c.in-Subtract.ensures.admitted c.in-Subtract.ensures.value)

pub value-returns-in-Multiply : goal.value-returns-in-Multiply
value-returns-in-Multiply t c = value_multiply _ _ _ c.both_values-of-in-Multiply.ensures (asked_parts c.requires c.in-Multiply.ensures.admitted c.in-Multiply.ensures.value)

pub value-returns-in-Choice : goal.value-returns-in-Choice
value-returns-in-Choice t c = value_choice _ _ _ (asked_parts c.requires c.in-Choice.ensures.admitted c.in-Choice.ensures.value) c.chosen.ensures

pub value-returns-in_default : goal.value-returns-in_default
value-returns-in_default t c = never_numeric c.numeric.result (opened c.in_default.in_default-own.keys7) (ap sort_of c.numeric.ensures.value ∙ c.requires.is_sort)
