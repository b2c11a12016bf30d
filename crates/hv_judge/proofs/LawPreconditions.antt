-- A plan that is solved with the preconditions of methods is solved without them.
use Rattle.std.proofs.Common.{◌+◌, ℕ, true, false, List, [], ◌∷◌, refl}
use Rattle.std.proofs.lemmas.Bool.{false≢true}
use Rattle.hv_state.specs.Plans as states
use Rattle.hv_plan.specs.Trees.{Item, Act, Task, Pre, Tree}
use Rattle.hv_plan.specs.PlanTrees.{PlanTree, tree_of, root_number}
use Rattle.hv_order.specs.Meanings.{Meaning, Choice}
use Rattle.hv_order.specs.Networks.{Network, Derives, Leads, initial_network, decomposition}
use Rattle.hv_order.specs.Sequences.{HasSequence, Executes}
use Rattle.hv_order.specs.Settings.{setting, last, AmountsTo, IsMeaning, IsSolved}

-- what a candidate amounts to where its precondition is taken as true: the same order, and true in
-- each state
abbrev eased : Meaning → Meaning
eased c = record { before = c.before; true_at = λ k. true }

-- so each candidate of a choice
abbrev eased_choice : Choice → Choice
eased_choice o = record { root = eased o.root; line = λ v. eased (o.line v) }

-- each step of a derivation looks at what is ordered alone
eased_leads : (t : Tree) (o : Choice) (from : Network) (lines : List ℕ) (end : Network)
    → Leads t o from lines end → Leads t (eased_choice o) from lines end
eased_leads t o from [] end h = h
eased_leads t o from (v ∷ vs) end (stands, h) =
    (stands, eased_leads t o (decomposition t o v from) vs end h)

eased_derives : (t : Tree) (o : Choice) (lines : List ℕ) (end : Network)
    → Derives t o lines end → Derives t (eased_choice o) lines end
eased_derives t o lines end d =
    record {
      leads = eased_leads t o (initial_network t o) lines end d.leads;
      once = d.once;
      all = d.all;
      done = d.done;
    }

eased_executes : (o : Choice) (k : ℕ) (q : List Item) (n : ℕ)
    → Executes o k q n → Executes (eased_choice o) k q n
eased_executes o k [] n h = h
eased_executes o k (Act j ∷ q) n (at, h) = (at, eased_executes o (k + 1) q n h)
eased_executes o k (Task v ∷ q) n h = h
eased_executes o k (Pre v ∷ q) n (holds, h) = (refl, eased_executes o k q n h)

eased_sequence : (t : Tree) (o : Choice) (n : ℕ) → HasSequence t o n
    → HasSequence t (eased_choice o) n
eased_sequence t o n h =
    record {
      lines = h.lines;
      end = h.end;
      sequence = h.sequence;
      derives = eased_derives t o h.lines h.end h.derives;
      linearizes = h.linearizes;
      executes = eased_executes o 0 h.sequence n h.executes;
    }

module _ (t : PlanTree) (p : states.Plan) where
  eased_amounts : (v : ℕ) (M B : List ℕ) (c : Meaning)
      → AmountsTo (setting t p true) v M B c → AmountsTo (setting t p false) v M B (eased c)
  eased_amounts v M B c h =
      record {
        node = h.node;
        has_node = h.has_node;
        method = h.method;
        has_method = h.has_method;
        candidate = h.candidate;
        stands = record {
          before = h.stands.before;
          true_at = λ m. (λ _. λ asked. absurd (false≢true asked), λ _. refl);
        };
      }

  eased_meaning : (v : ℕ) (c : Meaning) → IsMeaning (setting t p true) v c
      → IsMeaning (setting t p false) v (eased c)
  eased_meaning v c h =
      record {
        matching = h.matching;
        binding = h.binding;
        amounts = eased_amounts v h.matching h.binding c h.amounts;
      }

  pub solved_without : IsSolved (setting t p true) → IsSolved (setting t p false)
  solved_without h =
      record {
        choice = eased_choice h.choice;
        is_choice = record {
          of_root = eased_meaning (root_number t) h.choice.root h.is_choice.of_root;
          of_lines = λ v is. eased_meaning v (h.choice.line v) (h.is_choice.of_lines v is);
        };
        has_sequence = eased_sequence (tree_of t) h.choice (last (setting t p true)) h.has_sequence;
      }
