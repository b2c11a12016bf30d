-- The words that repeat a name, one after another.
use Rattle.std.proofs.Common.{◌≡◌, ℕ, ◌+◌, ◌<◌, nat_eq, Bool, true, false, not, List, [], ◌∷◌, ◌++◌, map, length, take, drop, get_or, Option, Some, if◌then◌else◌, refl, ap, sym, ◌∙◌, arith, ◌≤◌}
use Rattle.std.specs.Option.{option_eq}
use Rattle.std.proofs.lemmas.List.{length-map, length-take-le, take-append-drop, map-append, take_more, drop_more, drop_all}
use Rattle.std.proofs.lemmas.Simd.{map-map}
use Rattle.hv_syntax.specs.declared.word.Placed.{Placed}
use Rattle.hv_syntax.specs.declared.variable.VariableText.{VariableText}
use Rattle.hv_syntax.specs.Views.{word_view, variable_view}
use Rattle.hv_syntax.specs.Values.{WordAt}
use Rattle.hv_world.specs.declared.fault.StaticKind.{StaticKind}
use Rattle.hv_world.specs.declared.fault.Side.{Side}
use Rattle.hv_world.specs.declared.fault.StaticFault.{StaticFault}
use Rattle.hv_world.specs.Names.{names, is_among, place_in, repeated_after}
use Rattle.hv_world.specs.Known.{typed_words, variables}
use Rattle.hv_world.specs.Faults.{faults_at, fault_if, earlier, least}
use Rattle.hv_world.proofs.NameLemmas.{first_place}
use Rattle.hv_world.proofs.FaultLemmas.{earlier_assoc, earlier-none_right}

not_not : (b : Bool) → not (not b) ≡ b
not_not true = refl
not_not false = refl

least_when : (k : StaticKind) (s : Side) (b : Bool) (w : WordAt) (ws : List WordAt)
    → least (faults_at k s (if b then w ∷ ws else ws)) ≡ earlier (fault_if b k s w) (least (faults_at k s ws))
least_when k s true w ws = refl
least_when k s false w ws = refl

module _ {X : Type 0} (view : X → WordAt) (k : StaticKind) (s : Side) where
  -- the first word from a place on that repeats a name of any before it
  abbrev pub repeats_from : List X → ℕ → Option StaticFault
  repeats_from xs i = least (faults_at k s (repeated_after (names (map view (take i xs))) (map view (drop i xs))))

  pub repeats_next : (xs : List X) (i : ℕ) (x : X) (is_first : Bool) (found this next all : Option StaticFault) → i < length xs → x ≡ get_or xs i x
      → is_first ≡ option_eq nat_eq (place_in (names (map view xs)) (view x).text) (Some i) → this ≡ fault_if (not is_first) k s (view x) → next ≡ earlier found this
      → earlier found (repeats_from xs i) ≡ all → earlier next (repeats_from xs (i + 1)) ≡ all
  repeats_next xs i x is_first found this next all lt is test this_is next_is so_far =
      let before = names (map view (take i xs)) in
      let word = view x in
      let after = map view (drop (i + 1) xs) in
      let rest = least (faults_at k s (repeated_after (before ++ word.text ∷ []) after)) in
      let split : drop i xs ≡ x ∷ drop (i + 1) xs = drop_more xs i x lt ∙ ap (λ y. y ∷ drop (i + 1) xs) (sym is) in
      let front : take (i + 1) xs ≡ take i xs ++ x ∷ [] = take_more xs i x lt ∙ ap (λ y. take i xs ++ y ∷ []) (sym is) in
      let grown : names (map view (take (i + 1) xs)) ≡ before ++ word.text ∷ [] =
      ap (λ ys. names (map view ys)) front ∙ ap names (map-append view (take i xs) (x ∷ [])) ∙ map-append (λ (w : WordAt). w.text) (map view (take i xs)) (word ∷ []) in
      let whole : names (map view xs) ≡ before ++ word.text ∷ names after =
      ap (λ ys. names (map view ys)) (sym (take-append-drop i xs) ∙ ap (λ ys. take i xs ++ ys) split)
      ∙ ap names (map-append view (take i xs) (x ∷ drop (i + 1) xs)) ∙ map-append (λ (w : WordAt). w.text) (map view (take i xs)) (word ∷ after) in
      let long : length before ≡ i = length-map (map view (take i xs)) (λ (w : WordAt). w.text) ∙ length-map (take i xs) view ∙ length-take-le i xs (omega arith) in
      let first : is_first ≡ not (is_among before word.text) =
      test ∙ ap (λ ns. option_eq nat_eq (place_in ns word.text) (Some i)) whole ∙ ap (λ n. option_eq nat_eq (place_in (before ++ word.text ∷ names after) word.text) (Some n)) (sym long)
      ∙ first_place before word.text (names after) in
      let here_is : this ≡ fault_if (is_among before word.text) k s word = this_is ∙ ap (λ b. fault_if b k s word) (ap not first ∙ not_not (is_among before word.text)) in
      ap (λ ns. earlier next (least (faults_at k s (repeated_after ns after)))) grown
      ∙ ap (λ a. earlier a rest) (next_is ∙ ap (earlier found) here_is)
      ∙ earlier_assoc found (fault_if (is_among before word.text) k s word) rest
      ∙ ap (earlier found) (sym (least_when k s (is_among before word.text) word (repeated_after (before ++ word.text ∷ []) after)))
      ∙ ap (λ ys. earlier found (least (faults_at k s (repeated_after before (map view ys))))) (sym split) ∙ so_far

  pub repeats_end : (xs : List X) (i : ℕ) (found all : Option StaticFault) → length xs ≤ i → earlier found (repeats_from xs i) ≡ all → found ≡ all
  repeats_end xs i found all le so_far =
      sym (earlier-none_right found) ∙ ap (λ ys. earlier found (least (faults_at k s (repeated_after (names (map view (take i xs))) (map view ys))))) (sym (drop_all i xs le)) ∙ so_far

-- the word of a variable
abbrev pub word_of : VariableText → WordAt
word_of t = (variable_view t).name

pub typed_words_are : (vs : List VariableText) → typed_words (map variable_view vs) ≡ map word_of vs
typed_words_are vs = map-map (λ v. v.name) variable_view vs

pub variables_are : (vs : List VariableText) → variables (map variable_view vs) ≡ map (λ t. (variable_view t).name.text) vs
variables_are vs = map-map (λ v. v.name.text) variable_view vs

pub names_are : (vs : List VariableText) → names (map word_of vs) ≡ variables (map variable_view vs)
names_are vs = map-map (λ w. w.text) word_of vs ∙ sym (variables_are vs)

pub word_names : (ws : List Placed) → names (map word_view ws) ≡ map (λ w. (word_view w).text) ws
word_names ws = map-map (λ w. w.text) word_view ws
