-- One field, and the fields behind it.
use Rattle.std.proofs.Common.{◌≡◌, ◌==◌, ℕ, ◌-◌, ◌<◌, ◌≤◌, Bool, true, false, List, [], ◌∷◌, length, take, drop, get_or, Option, Some, None, option_map, refl, sym, ap, ◌∙◌, arith}
use Rattle.std.specs.Option.{is_some}
use Rattle.std.proofs.lemmas.Grind.{common_steps}
use Rattle.hv_text.specs.Names.{text_of}
use Rattle.hv_text.specs.Trees.{Tree, word, list, Trees, none, more, tree, trees}
use Rattle.hv_text.specs.declared.name.Name.{Name}
use Rattle.hv_text.specs.declared.span.Span.{Span}
use Rattle.hv_text.specs.declared.sexp.Sexp.{Sexp, Word}
use Rattle.hv_reading.specs.declared.field.Slot.{Slot}
use Rattle.hv_reading.specs.Fields.{slot_of, is_in, field, is_field_list}
use Rattle.hv_reading.proofs.Lists.{tree-Word}

others_of : (x y : Sexp) (es : List Sexp) → take (length (x ∷ y ∷ es) - 2) (drop 2 (x ∷ y ∷ es)) ≡ es
others_of x y es = grind (arith, common_steps)

pub front_two : (es : List Sexp) (k v : Sexp) (n : Name) (s : Span) → 2 ≤ length es → k ≡ get_or es 0 k → v ≡ get_or es 1 v → k ≡ Word n s
    → trees es ≡ more (word (text_of n) s) (more (tree v) (trees (take (length es - 2) (drop 2 es))))
front_two [] k v n s h is js w = absurd (omega arith)
front_two (x ∷ []) k v n s h is js w = absurd (omega arith)
front_two (x ∷ y ∷ es) k v n s h is js w =
    let e : tree x ≡ word (text_of n) s = ap tree (sym is ∙ w) ∙ tree-Word n s in
    rw (e, js, others_of x y es) refl

field_alone : (s : Slot) (t : Tree) → field s (more t none) ≡ None
field_alone s (word w p) = refl
field_alone s (list ts p) = refl

pub short_field : (s : Slot) (es : List Sexp) → length es < 2 → field s (trees es) ≡ None
short_field s [] h = refl
short_field s (x ∷ []) h = field_alone s (tree x)
short_field s (x ∷ y ∷ es) h = absurd (omega arith)

list_alone : (a : List Slot) (t : Tree) → is_field_list a (more t none) ≡ false
list_alone a (word w p) = refl
list_alone a (list ts p) = refl

pub short_list : (a : List Slot) (es : List Sexp) → length es < 2 → is_field_list a (trees es) ≡ (length es == 0)
short_list a [] h = refl
short_list a (x ∷ []) h = list_alone a (tree x)
short_list a (x ∷ y ∷ es) h = absurd (omega arith)

seen : {X : Type 0} (f : X → Tree) (o : Option X) (p : Option Tree) (b : Bool) → option_map f o ≡ p → b ≡ is_some o → is_some p ≡ b
seen f (Some x) p b e h = rw (← e) (sym h)
seen f None p b e h = rw (← e) (sym h)

module _ {X : Type 0} (f : X → Tree) (o : Option X) (a : List Slot) (w : List ℕ) (p : Span) (s : Slot) (t : Tree) (ts all : Trees) (same : s ≡ slot_of w) (found : option_map f o ≡ field s ts)
    (allowed : is_in a s ≡ true) (is : all ≡ more (word w p) (more t ts)) where
  pub repeated : true ≡ is_some o → is_field_list a all ≡ false
  repeated some =
      let h : is_some (field s ts) ≡ true = seen f o _ true found some in
      rw (is, ← same, allowed, h) refl

  pub goes_on : false ≡ is_some o → is_field_list a ts ≡ is_field_list a all
  goes_on some =
      let h : is_some (field s ts) ≡ false = seen f o _ false found some in
      rw (is, ← same, allowed, h) refl
