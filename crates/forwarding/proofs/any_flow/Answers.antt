use Rattle.std.proofs.Common.{rules, tests, ◌∙◌}
use Rattle.std.proofs.lemmas.Iterator.{YieldsList-from_slice}
use Rattle.std.proofs.lemmas.Iterator.Search.{any_from_yields_List}
use lib.Dec.{ltb}
use Rattle.forwarding.proofs.Flows.{any_of_list}
use Rattle.forwarding.proofs.any_flow.Goals as goal

pub returns : goal.returns
returns c = any_from_yields_List (λ n. ltb 0 n) _ _ c.any.result c.any.ensures.ran (YieldsList-from_slice c.args.counts.now cc) (λ x b q k. search (rules, tests)) ∙ any_of_list _ (search rules)
