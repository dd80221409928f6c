use Rattle.std.proofs.Common.{sym, subst, inl, inr}
use Rattle.schema.specs.Nodes.{sort_of}
use Rattle.schema.specs.Reading.{NodeAt}
use Rattle.schema.proofs.Places.{rule_node}
use Rattle.schema.proofs.sorts.read_node.Goals as goal

pub returns-in-ARule : goal.returns-in-ARule
returns-in-ARule c = elim c.in-ARule.is [
  | inl e ↦ subst (λ s. NodeAt (sort_of s) c.args.bytes.now c.args.at c.read_schema.result) (sym e) (rule_node c.args.bytes.now c.args.at c.read_schema.result c.read_schema.ensures)
  | inr e ↦ subst (λ s. NodeAt (sort_of s) c.args.bytes.now c.args.at c.read_schema.result) (sym e) c.read_schema.ensures
]
