-- What the members of a list spell as items and effects.
use Rattle.std.proofs.Common.{◌≡◌, ◌<◌, ℕ, List, [], ◌∷◌, length, map, Option, Some, None, Result, Ok, Err, option_map, refl, sym, ap, ◌∙◌, arith, rules}
use Rattle.std.specs.Prelude.{IfOk, IfErr}
use Rattle.std.specs.Global.{Vec}
use Rattle.hv_text.specs.Trees.{Tree, word, list, Trees, none, more, tree, trees}
use Rattle.hv_text.specs.declared.sexp.Sexp.{Sexp, List as ListOf}
use Rattle.hv_text.specs.declared.span.Span.{Span}
use Rattle.hv_reading.specs.declared.refusal.Refusal.{Refusal}
use Rattle.hv_reading.specs.declared.refusal.Refusal.TheVariants as refusals
use Rattle.hv_syntax.specs.declared.effect.ItemText.{ItemText, Literal, Forall, the_lemmas}
use Rattle.hv_syntax.specs.declared.literal.LiteralText.{LiteralText}
use Rattle.hv_syntax.specs.declared.variable.VariableText.{VariableText}
use Rattle.hv_reading.specs.declared.word.Head.{Head}
use Rattle.hv_reading.specs.declared.word.Head.TheVariants as heads
use Rattle.hv_reading.specs.Words.{head_of}
use Rattle.hv_reading.specs.inside.Reading.{Gives, both, every, all_some}
use Rattle.hv_syntax.specs.Values.{Effect, effect, becomes, for_each}
use Rattle.hv_reading.specs.inside.Formulas.{variables_of, quantified}
use Rattle.hv_reading.specs.inside.Literals.{literal_of}
use Rattle.hv_reading.specs.inside.Effects.{item_for_all, one, item_by, effect_by, item_of, effect_of, each_item, each_effect}
use Rattle.hv_syntax.specs.Views.{variable_view, literal_view, item_view}
use Rattle.hv_reading.proofs.Lists.{tree-List}

each_is : (ts : Trees) → all_some (each_item ts) ≡ every item_of ts
each_is none = refl
each_is (more t ts) = ap (both ◌∷◌ (item_of t)) (each_is ts)

view-Literal : (l : LiteralText) → item_view (Literal l) ≡ becomes (literal_view l)
view-Literal l = search (rules, the_lemmas)

view-Forall : (vs : Vec VariableText) (v : Vec ItemText) → item_view (Forall vs v) ≡ for_each (map variable_view vs.items) (effect (map item_view v.items))
view-Forall vs v = search (rules, the_lemmas)

-- a reading seen in one way, and in another
seen_as : {X Y Z : Type 0} (view : X → Y) (f : Y → Z) (r : Result X Refusal) (o : Option Y) → Gives view r o → Gives (λ x. f (view x)) r (option_map f o)
seen_as view f (Ok x) o h = ap (option_map f) h
seen_as view f (Err refusals.NoSpelling) o h = ap (option_map f) h
seen_as view f (Err refusals.Memory) o h = tt

-- one item alone
one_alone : (i : ItemText) (r : Result (Vec ItemText) Refusal) → IfOk r (λ v. map item_view v.items ≡ item_view i ∷ []) → IfErr r (λ e. e ≡ refusals.Memory)
    → Gives (λ v. effect (map item_view v.items)) r (Some (one (item_view i)))
one_alone i (Ok v) ok err = ap (λ xs. Some (effect xs)) (sym ok)
one_alone i (Err e) ok err = rw err tt

-- an item that is no `forall`, and an effect that is not behind `and`
pub as_literal : (h : Head) → (heads.Forall ≡ h → ⊥) → (t : Tree) (ts : Trees) (ps : List (Option Effect)) → item_by h t ts ps ≡ option_map becomes (literal_of t)
as_literal heads.Forall other t ts ps = absurd (other refl)
as_literal _ other t ts ps = refl

pub as_item : (h : Head) → (heads.And ≡ h → ⊥) → (t : Tree) (ts : Trees) → effect_by h t ts (each_item ts) (each_effect ts) ≡ option_map one (item_by h t ts (each_effect ts))
as_item heads.And other t ts = absurd (other refl)
as_item _ other t ts = refl

pub not_and : {h : Head} → h ≡ heads.Forall → heads.And ≡ h → ⊥
not_and e f = let clash : heads.And ≡ heads.Forall = f ∙ e in cc

-- `()`
pub no_members : (e : Sexp) (v : Vec Sexp) (es : List Sexp) (s : Span) → e ≡ ListOf v s → es ≡ v.items → length es < 1 → (r : Vec ItemText) → r.items ≡ [] → effect_of (tree e) ≡ Some (effect (map item_view r.items))
no_members e v [] s is items empty r none_read = rw none_read (ap (λ x. effect_of (tree x)) is ∙ ap effect_of (tree-List v s) ∙ ap (λ ys. effect_of (list (trees ys) s)) (sym items))
no_members e v (x ∷ es) s is items empty r none_read = absurd (omega arith)

-- a list that a word heads
module _ (t : Tree) (w : List ℕ) (p s : Span) (es : List Sexp) (h : Head) (is : t ≡ list (more (word w p) (trees es)) s) (head : h ≡ head_of w) where
  effect_is : effect_of t ≡ effect_by h t (trees es) (each_item (trees es)) (each_effect (trees es))
  effect_is = rw (is, head) refl

  item_is : item_of t ≡ item_by h t (trees es) (each_effect (trees es))
  item_is = rw (is, head) refl

  pub items_read : heads.And ≡ h → (r : Result (Vec ItemText) Refusal) → Gives (λ v. map item_view v.items) r (every item_of (trees es)) → Gives (λ v. effect (map item_view v.items)) r (effect_of t)
  items_read e r k =
      let all : effect_of t ≡ option_map effect (every item_of (trees es)) = effect_is ∙ rw (← e) (ap (option_map effect) (each_is (trees es))) in
      rw all (seen_as (λ v. map item_view v.items) effect r (every item_of (trees es)) k)

  pub forall_item : heads.Forall ≡ h → (r : Result ItemText Refusal) → Gives item_view r (option_map item_for_all (quantified (trees es) (each_effect (trees es)))) → Gives item_view r (item_of t)
  forall_item e r k =
      let it : item_of t ≡ option_map item_for_all (quantified (trees es) (each_effect (trees es))) = item_is ∙ rw (← e) refl in
      rw it k

  pub literal_item : (heads.Forall ≡ h → ⊥) → (l : LiteralText) → literal_of t ≡ Some (literal_view l) → item_of t ≡ Some (item_view (Literal l))
  literal_item other l read = item_is ∙ as_literal h other t (trees es) (each_effect (trees es)) ∙ ap (option_map becomes) read ∙ ap Some (sym (view-Literal l))

  one_item : (heads.And ≡ h → ⊥) → effect_of t ≡ option_map one (item_of t)
  one_item other = effect_is ∙ as_item h other t (trees es) ∙ ap (option_map one) (sym item_is)

  pub item_read : (heads.And ≡ h → ⊥) → (i : ItemText) → item_of t ≡ Some (item_view i) → (r : Result (Vec ItemText) Refusal) → IfOk r (λ v. map item_view v.items ≡ item_view i ∷ []) → IfErr r (λ e. e ≡ refusals.Memory)
      → Gives (λ v. effect (map item_view v.items)) r (effect_of t)
  item_read other i read r ok err = let alone : effect_of t ≡ Some (one (item_view i)) = one_item other ∙ ap (option_map one) read in rw alone (one_alone i r ok err)

  pub item_fails : (heads.And ≡ h → ⊥) → item_of t ≡ None → effect_of t ≡ None
  item_fails other failed = one_item other ∙ ap (option_map one) failed

  pub forall_read : (i : ItemText) → heads.Forall ≡ h → option_map item_for_all (quantified (trees es) (each_effect (trees es))) ≡ Some (item_view i) → item_of t ≡ Some (item_view i)
  forall_read i e read = item_is ∙ rw (← e) read

  pub forall_fails : heads.Forall ≡ h → option_map item_for_all (quantified (trees es) (each_effect (trees es))) ≡ None → item_of t ≡ None
  forall_fails e failed = item_is ∙ rw (← e) failed

  pub literal_fails : (heads.Forall ≡ h → ⊥) → literal_of t ≡ None → item_of t ≡ None
  literal_fails other failed = item_is ∙ as_literal h other t (trees es) (each_effect (trees es)) ∙ ap (option_map becomes) failed

-- the members behind `forall`
module _ (es : List Sexp) where
  pub quantified_read : (e f : Sexp) (vs : Vec VariableText) (v : Vec ItemText) → trees es ≡ more (tree e) (more (tree f) none)
      → variables_of (tree e) ≡ Some (map variable_view vs.items) → effect_of (tree f) ≡ Some (effect (map item_view v.items))
      → option_map item_for_all (quantified (trees es) (each_effect (trees es))) ≡ Some (item_view (Forall vs v))
  quantified_read e f vs v two listed read = rw (two, listed, read, view-Forall vs v) refl

pub not_two : (es : List Sexp) → (length es ≡ 2 → ⊥) → option_map item_for_all (quantified (trees es) (each_effect (trees es))) ≡ None
not_two [] other = refl
not_two (x ∷ []) other = refl
not_two (x ∷ y ∷ []) other = absurd (other refl)
not_two (x ∷ y ∷ z ∷ es) other = refl
