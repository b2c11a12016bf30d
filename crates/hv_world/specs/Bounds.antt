-- The numbers of a world are those of what it has: types, objects, predicates, tasks, actions, and
-- variables in scope.
use Rattle.std.specs.Prelude.{◌≡◌, ℕ, ◌+◌, ◌<◌, ◌≤◌, ◌++◌, List, length, Option, Some, None, All, MatchOption}
use Rattle.std.specs.List.{slice_get}
use Rattle.hv_world.specs.Values.{Term, object, variable, Atom, Formula, Formulas, holds, and, or, not, imply, forall, exists, equal, no_formulas, more_formulas, Effect, Effects, becomes, for_each, no_effects, more_effects, TaskName, compound, primitive, Subtask, Constraint}
use Rattle.hv_world.specs.Networks.{IsArrangeable}
use Rattle.hv_world.specs.Types.{IsInRange}
use Rattle.hv_lists.specs.Lists.{Once}
use Rattle.hv_world.specs.Worlds.{Network, Method, Action, World, task_names, action_names, method_names}

module _ (w : World) where
  abbrev pub IsType : ℕ → Type 0
  IsType t = t < w.typing.types

  -- a term, where n variables are in scope
  abbrev pub IsBoundTerm : ℕ → Term → Type 0
  IsBoundTerm n (object o) = o < length w.objects
  IsBoundTerm n (variable v) = v < n

  abbrev pub AreBoundTerms : ℕ → List Term → Type 0
  AreBoundTerms n xs = All (IsBoundTerm n) xs

  abbrev pub IsBoundAtom : ℕ → Atom → Type 0
  IsBoundAtom n a = (a.predicate < length w.predicates) × AreBoundTerms n a.terms

  -- a quantifier adds its variables behind those in scope
  abbrev mutual
    pub IsBoundFormula : ℕ → Formula → Type 0
    IsBoundFormula n (holds a) = IsBoundAtom n a
    IsBoundFormula n (and fs) = AreBoundFormulas n fs
    IsBoundFormula n (or fs) = AreBoundFormulas n fs
    IsBoundFormula n (not f) = IsBoundFormula n f
    IsBoundFormula n (imply f g) = IsBoundFormula n f × IsBoundFormula n g
    IsBoundFormula n (forall ts f) = All IsType ts × IsBoundFormula (n + length ts) f
    IsBoundFormula n (exists ts f) = All IsType ts × IsBoundFormula (n + length ts) f
    IsBoundFormula n (equal x y) = IsBoundTerm n x × IsBoundTerm n y

    pub AreBoundFormulas : ℕ → Formulas → Type 0
    AreBoundFormulas n no_formulas = Unit {0}
    AreBoundFormulas n (more_formulas f fs) = IsBoundFormula n f × AreBoundFormulas n fs

  abbrev mutual
    pub IsBoundEffect : ℕ → Effect → Type 0
    IsBoundEffect n (becomes b a) = IsBoundAtom n a
    IsBoundEffect n (for_each ts es) = All IsType ts × AreBoundEffects (n + length ts) es

    pub AreBoundEffects : ℕ → Effects → Type 0
    AreBoundEffects n no_effects = Unit {0}
    AreBoundEffects n (more_effects e es) = IsBoundEffect n e × AreBoundEffects n es

  -- a task of the world has this many parameters, and so for an action
  abbrev pub TaskTakes : ℕ → ℕ → Type 0
  TaskTakes t k = MatchOption (slice_get w.tasks t) ⊥ (λ x. length x.parameters ≡ k)

  abbrev pub ActionTakes : ℕ → ℕ → Type 0
  ActionTakes a k = MatchOption (slice_get w.actions a) ⊥ (λ x. length x.parameters ≡ k)

  abbrev pub Takes : TaskName → ℕ → Type 0
  Takes (compound t) k = TaskTakes t k
  Takes (primitive a) k = ActionTakes a k

  -- a subtask names a task or an action with as many parameters as it has terms
  abbrev pub IsBoundSubtask : ℕ → Subtask → Type 0
  IsBoundSubtask n x = Takes x.name (length x.terms) × AreBoundTerms n x.terms

  abbrev pub IsBoundConstraint : ℕ → Constraint → Type 0
  IsBoundConstraint n c = IsBoundTerm n c.left × IsBoundTerm n c.right

  pub record IsBoundNetwork (n : ℕ) (net : Network) : Type 0 where
    pub subtasks : All (IsBoundSubtask n) net.subtasks
    pub constraints : All (IsBoundConstraint n) net.constraints

  -- a method is for a task, and not for an action
  abbrev pub IsBoundTask : ℕ → Option Subtask → Type 0
  IsBoundTask n None = Unit {0}
  IsBoundTask n (Some x) =
      elim x.name [ compound t ↦ TaskTakes t (length x.terms) | primitive a ↦ ⊥ ]
      × AreBoundTerms n x.terms

  pub record IsBoundMethod (m : Method) : Type 0 where
    pub parameters : All IsType m.parameters
    pub task : IsBoundTask (length m.parameters) m.task
    pub precondition : IsBoundFormula (length m.parameters) m.precondition
    pub network : IsBoundNetwork (length m.parameters) m.network

  pub record IsBoundAction (a : Action) : Type 0 where
    pub parameters : All IsType a.parameters
    pub precondition : IsBoundFormula (length a.parameters) a.precondition
    pub effect : AreBoundEffects (length a.parameters) a.effect

  abbrev pub IsBoundGoal : Option Formula → Type 0
  IsBoundGoal None = Unit {0}
  IsBoundGoal (Some f) = IsBoundFormula 0 f

-- the names of each kind stand once; those of tasks and actions are one kind
pub record AreNamedOnce (w : World) : Type 0 where
  pub types : Once w.types
  pub objects : Once w.objects
  pub predicates : Once w.predicates
  pub tasks : Once (task_names w.tasks ++ action_names w.actions)
  pub methods : Once (method_names w.methods)

-- the order of a network is that of its subtasks, and none of them comes before itself
pub record IsSoundNetwork (net : Network) : Type 0 where
  pub order : net.order.len ≡ length net.subtasks
  pub arrangeable : IsArrangeable net.order

-- what every world keeps: each kind of name stands once, the types with a name stand first, there
-- are as many objects as names of them, and orders are sound
pub record IsSound (w : World) : Type 0 where
  pub named : AreNamedOnce w
  pub typing : IsInRange w.typing
  pub type_count : length w.types ≤ w.typing.types
  pub object_count : w.typing.objects ≡ length w.objects
  pub methods : All (λ m. IsSoundNetwork m.network) w.methods
  pub top : IsSoundNetwork w.top.network

-- all that a world says is bound
pub record IsBound (w : World) : Type 0 where
  pub tasks : All (λ t. All (IsType w) t.parameters) w.tasks
  pub methods : All (IsBoundMethod w) w.methods
  pub actions : All (IsBoundAction w) w.actions
  pub init : All (IsBoundAtom w 0) w.init
  pub goal : IsBoundGoal w w.goal
  pub top : IsBoundMethod w w.top
