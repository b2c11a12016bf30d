-- What the expressions of a text are, and that a text has the expressions that it spells.
use Rattle.std.proofs.Common.{◌≡◌, ◌==◌, ◌+◌, ◌-◌, ◌≤◌, ◌++◌, ℕ, Bool, true, false, List, [], ◌∷◌, Option, None, Some, length, map, refl, ap, sym, ◌∙◌, subst, arith, append_assoc}
use Rattle.std.proofs.lemmas.Grind.{common_steps}
use Rattle.std.proofs.lemmas.List.{append-nil}
use Rattle.std.proofs.lemmas.Str.Ascii.{lowercase-lowercase}
use Rattle.std.specs.Char.{to_ascii_lowercase}
use Rattle.std.specs.List.{take_while, list_all}
use Rattle.hv_text.specs.Bytes.{is_word_byte, is_word, lower}
use Rattle.hv_text.specs.Trees.{Tree, Trees, word, list, none, more}
use Rattle.hv_text.specs.Words as found
use Rattle.hv_text.specs.Words.{Piece, left, right, bad, nowhere, class_of, beginning, pieces_from, pieces, uncommented}
use Rattle.hv_text.specs.Sexps.{spelled, spelled_all, opening, closing, IsSound, AreExpressions}
use Rattle.hv_text.specs.inside.Scan.{fault_from, open_from}
use Rattle.hv_text.specs.Shapes.{bare_piece, bare_tree, bare_trees, IsTidy, AreTidy, depth, depth_all}
use Rattle.hv_text.specs.declared.span.Span.{Span}
use Rattle.hv_text.specs.declared.fault.TextKind.{TextKind}
use Rattle.hv_text.specs.declared.fault.TextKind.TheVariants as kinds
use Rattle.hv_text.specs.declared.fault.TheConstants.{MOST_BYTES, MOST_OPEN}
use Rattle.hv_text.specs.declared.words.Class.{Class}
use Rattle.hv_text.specs.declared.words.Class.TheVariants.{Blank, Semicolon, Left, Right, Inner, Bad}
use Rattle.hv_text.proofs.WordLemmas.{run_is_word}
use Rattle.hv_text.proofs.RunLemmas.{class_inner}
use Rattle.hv_text.proofs.SexpLemmas.{closing_is, one_less, fault_after}
use Rattle.hv_text.proofs.TreeLemmas.{list_spelled}
use Rattle.hv_text.proofs.FaultLemmas.{if_none, is_sound, is_first_fault, none_open}

-- a word is one in lower case, and a parenthesis is one byte
abbrev pub IsWhole : Piece → Type 0
IsWhole (found.word w s) = (is_word w ≡ true) × (lower w ≡ w)
IsWhole (left s) = s.past ≡ s.start + 1
IsWhole (right s) = s.past ≡ s.start + 1
IsWhole (bad s) = Unit {0}

abbrev pub AreWhole : List Piece → Type 0
AreWhole [] = Unit {0}
AreWhole (p ∷ ps) = IsWhole p × AreWhole ps

both_whole : (ps qs : List Piece) → AreWhole ps → AreWhole qs → AreWhole (ps ++ qs)
both_whole [] qs h k = k
both_whole (p ∷ ps) qs h k = (h.0, both_whole ps qs h.1 k)

each_whole : (ps qs : List Piece) → AreWhole (ps ++ qs) → AreWhole ps × AreWhole qs
each_whole [] qs h = (tt, h)
each_whole (p ∷ ps) qs h = let w = each_whole ps qs h.1 in ((h.0, w.0), w.1)

same_word_byte : (b : ℕ) → is_word_byte (to_ascii_lowercase b) ≡ is_word_byte b
same_word_byte b = grind arith

same_word_bytes : (bs : List ℕ) → list_all is_word_byte (lower bs) ≡ list_all is_word_byte bs
same_word_bytes [] = refl
same_word_bytes (b ∷ bs) = rw (same_word_byte b, same_word_bytes bs) refl

same_word : (bs : List ℕ) → is_word (lower bs) ≡ is_word bs
same_word [] = refl
same_word (b ∷ bs) = same_word_bytes (b ∷ bs)

lower_lower : (bs : List ℕ) → lower (lower bs) ≡ lower bs
lower_lower [] = refl
lower_lower (b ∷ bs) = rw (lowercase-lowercase b, lower_lower bs) refl

-- what begins at a byte
begun_whole : (c : Class) (after : Bool) (p b : ℕ) (bs : List ℕ) → class_of b ≡ c → AreWhole (beginning c after p (b ∷ bs))
begun_whole Inner true p b bs e = tt
begun_whole Inner false p b bs e =
    let run : List ℕ = take_while is_word_byte (b ∷ bs) in ((same_word run ∙ run_is_word b bs (class_inner b e), lower_lower run), tt)
begun_whole Left after p b bs e = (refl, tt)
begun_whole Right after p b bs e = (refl, tt)
begun_whole Bad after p b bs e = (tt, tt)
begun_whole Blank after p b bs e = tt
begun_whole Semicolon after p b bs e = tt

pieces_whole : (after : Bool) (p : ℕ) (bs : List ℕ) → AreWhole (pieces_from after p bs)
pieces_whole after p [] = tt
pieces_whole after p (b ∷ bs) =
    both_whole (beginning (class_of b) after p (b ∷ bs)) (pieces_from (is_word_byte b) (p + 1) bs) (begun_whole (class_of b) after p b bs refl) (pieces_whole (is_word_byte b) (p + 1) bs)

pub text_whole : (text : List ℕ) → AreWhole (pieces text)
text_whole text = pieces_whole false 0 (uncommented false text)

mutual
  tree_tidy : (t : Tree) → AreWhole (spelled t) → IsTidy t
  tree_tidy (word w s) h = h.0
  tree_tidy (list ts s) h = trees_tidy ts (each_whole (spelled_all ts) (right (closing s) ∷ []) h.1).0

  trees_tidy : (ts : Trees) → AreWhole (spelled_all ts) → AreTidy ts
  trees_tidy none h = tt
  trees_tidy (more t ts) h = let w = each_whole (spelled t) (spelled_all ts) h in (tree_tidy t w.0, trees_tidy ts w.1)

-- where no fault stands, none is found from the front
no_fault_by : (ps : List Piece) (o : Option (TextKind × Span)) → IsSound ps → fault_from 0 ps ≡ o → o ≡ None
no_fault_by ps None h e = refl
no_fault_by ps (Some (kind, s)) h e = let w = is_first_fault ps kind s e in absurd (clash w.0 (h w.0) w.1)
  where
    clash : {X : Type 0} {x : X} {o : Option X} (k : ℕ) → o ≡ None → o ≡ Some x → ⊥
    clash k a b = cc

no_fault : (ps : List Piece) → IsSound ps → fault_from 0 ps ≡ None
no_fault ps h = no_fault_by ps (fault_from 0 ps) h refl

not_most : (n : ℕ) → n ≤ MOST_OPEN → (n == MOST_OPEN) ≡ false → n + 1 ≤ MOST_OPEN
not_most n l e = grind (arith, common_steps)

-- an expression in which no fault is found nests no deeper than may be
mutual
  tree_within : (t : Tree) (n : ℕ) (ps : List Piece) → n ≤ MOST_OPEN → fault_from n (spelled t ++ ps) ≡ None → (n + depth t ≤ MOST_OPEN) × (fault_from n ps ≡ None)
  tree_within (word w s) n ps l e = (omega arith, e)
  tree_within (list ts s) n ps l e =
      let rest : List Piece = spelled_all ts ++ (right (closing s) ∷ ps) in
      let d = if_none (n == MOST_OPEN) (kinds.TooDeep, opening s) (fault_from (n + 1) rest) (ap (fault_from n) (sym (list_spelled ts s ps)) ∙ e) in
      let w = trees_within ts (n + 1) (right (closing s) ∷ ps) (not_most n l d.0) d.1 in
      (omega (arith, w.0), fault_after (n + 1) n (closing s) (right (closing s) ∷ ps) ps None refl refl w.1)

  trees_within : (ts : Trees) (n : ℕ) (ps : List Piece) → n ≤ MOST_OPEN → fault_from n (spelled_all ts ++ ps) ≡ None → (n + depth_all ts ≤ MOST_OPEN) × (fault_from n ps ≡ None)
  trees_within none n ps l e = (omega arith, e)
  trees_within (more t ts) n ps l e =
      let v = tree_within t n (spelled_all ts ++ ps) l (ap (fault_from n) (sym (append_assoc (spelled t) (spelled_all ts) ps)) ∙ e) in
      let w = trees_within ts n ps l v.1 in
      (omega (arith, v.0, w.0), w.1)

-- the expressions of a text have words in lower case, and nest no deeper than may be
pub expressions_tidy : (text : List ℕ) (ts : Trees) → AreExpressions text ts → AreTidy ts × (depth_all ts ≤ MOST_OPEN)
expressions_tidy text ts are =
    let found : fault_from 0 (spelled_all ts ++ []) ≡ None = ap (fault_from 0) (append-nil (spelled_all ts) ∙ are.spelled) ∙ no_fault (pieces text) are.sound in
    let w = trees_within ts 0 [] (omega arith) found in
    (trees_tidy ts (subst AreWhole (sym are.spelled) (text_whole text)), omega (arith, w.0))

-- what expressions spell, where they nest no deeper than may be, has no fault
mutual
  tree_sound : (t : Tree) (n : ℕ) (ps : List Piece) → n + depth t ≤ MOST_OPEN → fault_from n (spelled t ++ ps) ≡ fault_from n ps
  tree_sound (word w s) n ps l = refl
  tree_sound (list ts s) n ps l =
      let few : (n == MOST_OPEN) ≡ false = grind (arith, common_steps) in
      let some : (n + 1 == 0) ≡ false = grind arith in
      let less : n + 1 - 1 ≡ n = omega arith in
      ap (fault_from n) (list_spelled ts s ps) ∙ (rw few (trees_sound ts (n + 1) (right (closing s) ∷ ps) (omega arith) ∙ (rw (some, less) refl)))

  trees_sound : (ts : Trees) (n : ℕ) (ps : List Piece) → n + depth_all ts ≤ MOST_OPEN → fault_from n (spelled_all ts ++ ps) ≡ fault_from n ps
  trees_sound none n ps l = refl
  trees_sound (more t ts) n ps l =
      ap (fault_from n) (append_assoc (spelled t) (spelled_all ts) ps) ∙ tree_sound t n (spelled_all ts ++ ps) (omega arith) ∙ trees_sound ts n ps (omega arith)

-- and leaves open what was open before
mutual
  tree_closed : (t : Tree) (os : List Span) (ps : List Piece) → open_from os (spelled t ++ ps) ≡ open_from os ps
  tree_closed (word w s) os ps = refl
  tree_closed (list ts s) os ps =
      ap (open_from os) (list_spelled ts s ps) ∙ trees_closed ts (os ++ opening s ∷ []) (right (closing s) ∷ ps) ∙ ap (λ x. open_from x ps) (one_less os (opening s))

  trees_closed : (ts : Trees) (os : List Span) (ps : List Piece) → open_from os (spelled_all ts ++ ps) ≡ open_from os ps
  trees_closed none os ps = refl
  trees_closed (more t ts) os ps =
      ap (open_from os) (append_assoc (spelled t) (spelled_all ts) ps) ∙ tree_closed t os (spelled_all ts ++ ps) ∙ trees_closed ts os ps

-- the nesting has no places
mutual
  same_depth : (t : Tree) → depth (bare_tree t) ≡ depth t
  same_depth (word w s) = refl
  same_depth (list ts s) = ap (λ n. 1 + n) (same_depths ts)

  same_depths : (ts : Trees) → depth_all (bare_trees ts) ≡ depth_all ts
  same_depths none = refl
  same_depths (more t ts) = rw (same_depth t, same_depths ts) refl

-- an expression that is spelled at the front, with what stands behind it
pub record Front (t : Tree) (ps qs : List Piece) : Type 0 where
  pub tree : Tree
  pub behind : List Piece
  pub is : ps ≡ spelled tree ++ behind
  pub rest : map bare_piece behind ≡ map bare_piece qs
  pub same : bare_tree tree ≡ bare_tree t

pub record Fronts (ts : Trees) (ps qs : List Piece) : Type 0 where
  pub trees : Trees
  pub behind : List Piece
  pub is : ps ≡ spelled_all trees ++ behind
  pub rest : map bare_piece behind ≡ map bare_piece qs
  pub same : bare_trees trees ≡ bare_trees ts

word_front : (w : List ℕ) (s : Span) (ps qs : List Piece) → map bare_piece ps ≡ map bare_piece (found.word w s ∷ qs) → Front (word w s) ps qs
word_front w s [] qs e = absurd cc
word_front w s (found.word v r ∷ ps) qs e = let same : v ≡ w = cc in record { tree = word v r; behind = ps; is = refl; rest = cc; same = ap (λ x. word x nowhere) same }
word_front w s (left r ∷ ps) qs e = absurd cc
word_front w s (right r ∷ ps) qs e = absurd cc
word_front w s (bad r ∷ ps) qs e = absurd cc

-- behind the members, the parenthesis that ends the list
closed_front : (ts us : Trees) (s a : Span) (ps bs qs : List Piece) → a.past ≡ a.start + 1 → AreWhole bs → ps ≡ spelled_all us ++ bs → map bare_piece bs ≡ right nowhere ∷ map bare_piece qs
    → bare_trees us ≡ bare_trees ts → Front (list ts s) (left a ∷ ps) qs
closed_front ts us s a ps [] qs h k e f g = absurd cc
closed_front ts us s a ps (right b ∷ bs) qs h k e f g =
    let place : Span = record { start = a.start; past = b.past } in
    let first : opening place ≡ a = rw h refl in
    let last : closing place ≡ b = closing_is a.start b k.0 in
    let whole : left a ∷ ps ≡ spelled (list us place) ++ bs = sym (list_spelled us place bs ∙ ap (λ x. left x ∷ (spelled_all us ++ (right (closing place) ∷ bs))) first ∙ ap (λ x. left a ∷ (spelled_all us ++ (right x ∷ bs))) last ∙ ap (λ x. left a ∷ x) (sym e)) in
    record { tree = list us place; behind = bs; is = whole; rest = cc; same = ap (λ x. list x nowhere) g }
closed_front ts us s a ps (left b ∷ bs) qs h k e f g = absurd cc
closed_front ts us s a ps (found.word w b ∷ bs) qs h k e f g = absurd cc
closed_front ts us s a ps (bad b ∷ bs) qs h k e f g = absurd cc

both_fronts : (ps qs xs ys zs : List Piece) → ps ≡ xs ++ qs → qs ≡ ys ++ zs → ps ≡ (xs ++ ys) ++ zs
both_fronts ps qs xs ys zs e f = e ∙ ap (λ x. xs ++ x) f ∙ sym (append_assoc xs ys zs)

mutual
  tree_front : (t : Tree) (ps qs : List Piece) → AreWhole ps → map bare_piece ps ≡ map bare_piece (spelled t ++ qs) → Front t ps qs
  tree_front (word w s) ps qs h e = word_front w s ps qs e
  tree_front (list ts s) [] qs h e = absurd cc
  tree_front (list ts s) (left a ∷ ps) qs h e =
      let grouped : left nowhere ∷ map bare_piece ps ≡ left nowhere ∷ map bare_piece (spelled_all ts ++ (right (closing s) ∷ qs)) = e ∙ ap (map bare_piece) (list_spelled ts s qs) in
      let w = trees_front ts ps (right (closing s) ∷ qs) h.1 cc in
      let k = each_whole (spelled_all w.trees) w.behind (subst AreWhole w.is h.1) in
      closed_front ts w.trees s a ps w.behind qs h.0 k.1 w.is w.rest w.same
  tree_front (list ts s) (right a ∷ ps) qs h e = absurd cc
  tree_front (list ts s) (found.word w a ∷ ps) qs h e = absurd cc
  tree_front (list ts s) (bad a ∷ ps) qs h e = absurd cc

  trees_front : (ts : Trees) (ps qs : List Piece) → AreWhole ps → map bare_piece ps ≡ map bare_piece (spelled_all ts ++ qs) → Fronts ts ps qs
  trees_front none ps qs h e = record { trees = none; behind = ps; is = refl; rest = e; same = refl }
  trees_front (more t ts) ps qs h e =
      let v = tree_front t ps (spelled_all ts ++ qs) h (e ∙ ap (map bare_piece) (append_assoc (spelled t) (spelled_all ts) qs)) in
      let k = each_whole (spelled v.tree) v.behind (subst AreWhole v.is h) in
      let w = trees_front ts v.behind qs k.1 v.rest in
      record {
        trees = more v.tree w.trees;
        behind = w.behind;
        is = both_fronts ps v.behind (spelled v.tree) (spelled_all w.trees) w.behind v.is w.is;
        rest = w.rest;
        same = ap (λ x. more x (bare_trees w.trees)) v.same ∙ ap (more (bare_tree t)) w.same;
      }

nothing_behind : (ps : List Piece) → map bare_piece ps ≡ [] → ps ≡ []
nothing_behind [] e = refl
nothing_behind (p ∷ ps) e = absurd cc

-- a text that spells what expressions do has them, places aside
pub expressions_found : (text : List ℕ) (ts : Trees) → length text ≤ MOST_BYTES → map bare_piece (pieces text) ≡ map bare_piece (spelled_all ts) → depth_all ts ≤ MOST_OPEN
    → (us : Trees) × AreExpressions text us × (bare_trees us ≡ bare_trees ts)
expressions_found text ts l e d =
    let w = trees_front ts (pieces text) [] (text_whole text) (e ∙ ap (map bare_piece) (sym (append-nil (spelled_all ts)))) in
    let all : pieces text ≡ spelled_all w.trees ++ [] = w.is ∙ ap (λ x. spelled_all w.trees ++ x) (nothing_behind w.behind w.rest) in
    let deep : depth_all w.trees ≡ depth_all ts = sym (same_depths w.trees) ∙ ap depth_all w.same ∙ same_depths ts in
    let sound : fault_from 0 (pieces text) ≡ None = ap (fault_from 0) all ∙ trees_sound w.trees 0 [] (omega arith) in
    let closed : open_from [] (pieces text) ≡ [] = ap (open_from []) all ∙ trees_closed w.trees [] [] in
    (w.trees, record { size = l; sound = is_sound (pieces text) sound; closed = none_open (pieces text) sound closed; spelled = sym (all ∙ append-nil (spelled_all w.trees)) }, w.same)
