use Rattle.hv_world.specs.Bindings.{objects_in}
use Rattle.hv_state.proofs.TermLemmas.{one_term, two_terms, three_terms}
use Rattle.hv_state.proofs.atom.resolve.Goals as goal

pub returns-in-len1 : goal.returns-in-len1
returns-in-len1 c = one_term (objects_in c.args.binding.now) c.args.terms.now c.args.numbers.now _ _ c.told-numbers c.in-len1.len_at_least c.in-len1.len_below c.object_of.ensures

pub returns-in-len2 : goal.returns-in-len2
returns-in-len2 c = two_terms (objects_in c.args.binding.now) c.args.terms.now c.args.numbers.now _ _ _ _ c.told-numbers c.in-len2.len_at_least c.in-len2.len_below c.object_of-in-len2.ensures c.object_of-in-len2-2.ensures

pub returns-in-len3 : goal.returns-in-len3
returns-in-len3 c = three_terms (objects_in c.args.binding.now) c.args.terms.now c.args.numbers.now _ _ _ _ _ _ c.told-numbers c.in-len3.len_at_least c.in-len3.len_below c.object_of-in-len3.ensures c.object_of-in-len3-2.ensures c.object_of-in-len3-3.ensures
