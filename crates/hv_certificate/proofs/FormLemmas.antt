-- What the words of a line say.
use Rattle.std.proofs.Common.{◌≡◌, ◌<◌, ◌^◌, ℕ, true, false, None, List, [], ◌∷◌, ◌++◌, refl, sym, ap, ap₂, subst, ◌∙◌, arith, append_assoc, append-nil, codes, decimal, bytes_eq, length, map, take, drop, All}
use Rattle.std.proofs.lemmas.Fmt.{decimal_injective, decimal_is_IsNumeral}
use Rattle.std.proofs.lemmas.List.{map-append, same_from_push, take-append-drop}
use Rattle.std.proofs.lemmas.List.Concat.{flat_map-append}
use Rattle.std.proofs.lemmas.List.Elements.{All-head, All-tail}
use Rattle.std.proofs.lemmas.Slice.Eq.{bytes_eq-Decides}
use Rattle.std.specs.List.{list_all}
use Rattle.std.specs.Str.Parse.{AllDigits}
use Rattle.hv_text.specs.Names.{text_of}
use Rattle.hv_text.specs.declared.name.Name.{Name}
use Rattle.hv_certificate.specs.Texts.{ids_text, names_text, choice_text, root_text, node_text}
use Rattle.hv_certificate.specs.Forms.{IsId, IsIndex, HasIds, IsLine}
use Rattle.hv_certificate.specs.inside.Words.{is_name_byte, begins, IsWord, AreWords, words_text, line_text, choice_words, node_words}
use Rattle.hv_certificate.specs.inside.Reading.{IsNoNumber, IsNoNumberAt, IsNoIndex, IsChoiceRead, NoRoot, NoNode}
use Rattle.hv_certificate.specs.declared.certificate.Choice.{Choice}
use Rattle.hv_certificate.proofs.WordLemmas.{decimal_word, names_words, lines_same}

pub is_not : (w v : List ℕ) → bytes_eq w v ≡ false → w ≡ v → ⊥
is_not w v never e = cc (never, (bytes_eq-Decides w v).1 e)

pub is_so : (w v : List ℕ) → bytes_eq w v ≡ true → w ≡ v
is_so w v same_bytes = (bytes_eq-Decides w v).0 same_bytes

-- the last two words

two_last : {X : Type 0} (xs : List X) (a b : X) → xs ++ a ∷ b ∷ [] ≡ (xs ++ a ∷ []) ++ b ∷ []
two_last xs a b = sym (append_assoc xs (a ∷ []) (b ∷ []))

pub last_two : (ns more most : List Name) (l m : Name) → ns ≡ more ++ l ∷ [] → more ≡ most ++ m ∷ []
    → map text_of ns ≡ map text_of most ++ text_of m ∷ text_of l ∷ []
last_two ns more most l m e f =
    ap (map text_of) (e ∙ ap (λ t. t ++ l ∷ []) f ∙ sym (two_last most m l))
    ∙ map-append text_of most (m ∷ l ∷ [])

pub same_two : {X : Type 0} (xs ys : List X) (a b p q : X) → xs ++ a ∷ b ∷ [] ≡ ys ++ p ∷ q ∷ []
    → (xs ≡ ys) × (a ≡ p) × (b ≡ q)
same_two xs ys a b p q e =
    let (front, last) = same_from_push (xs ++ a ∷ []) (ys ++ p ∷ []) b q (sym (two_last xs a b) ∙ e ∙ two_last ys p q) in
    let (all, mark) = same_from_push xs ys a p front in
    (all, mark, last)

pub no_index_mark : (ws vs : List (List ℕ)) (m l : List ℕ) → ws ≡ vs ++ m ∷ l ∷ [] → bytes_eq m (codes "pre") ≡ false
    → IsNoIndex ws
no_index_mark ws vs m l e never = λ us n h f.
    let (_, mark, _) = same_two vs us m l (codes "pre") (decimal n) (sym e ∙ f) in
    is_not m (codes "pre") never mark

pub no_index_number : (ws vs : List (List ℕ)) (m l : List ℕ) → ws ≡ vs ++ m ∷ l ∷ [] → ((n : ℕ) → IsIndex n → l ≡ decimal n → ⊥)
    → IsNoIndex ws
no_index_number ws vs m l e never = λ us n h f.
    let (_, _, last) = same_two vs us m l (codes "pre") (decimal n) (sym e ∙ f) in
    never n h last

pub index_read : (ws vs : List (List ℕ)) (m l : List ℕ) (n : ℕ) → ws ≡ vs ++ m ∷ l ∷ [] → bytes_eq m (codes "pre") ≡ true
    → l ≡ decimal n → ws ≡ vs ++ codes "pre" ∷ decimal n ∷ []
index_read ws vs m l n e same_bytes is = e ∙ ap₂ (λ a b. vs ++ a ∷ b ∷ []) (is_so m (codes "pre") same_bytes) is

-- the words of a choice

-- ids, and then a word that is none, can be told apart from others such
pub ids_same : (is js : List ℕ) (xs ys : List (List ℕ)) → All IsId is → All IsId js → IsNoNumberAt xs → IsNoNumberAt ys
    → map decimal is ++ xs ≡ map decimal js ++ ys → (is ≡ js) × (xs ≡ ys)
ids_same [] [] xs ys p q f g e = (refl, e)
ids_same [] (j ∷ js) [] ys p q f g e = absurd cc
ids_same [] (j ∷ js) (x ∷ xs) ys p q f g e = absurd (f j (All-head IsId j js q) cc)
ids_same (i ∷ is) [] xs [] p q f g e = absurd cc
ids_same (i ∷ is) [] xs (y ∷ ys) p q f g e = absurd (g i (All-head IsId i is p) cc)
ids_same (i ∷ is) (j ∷ js) xs ys p q f g e =
    let first : decimal i ≡ decimal j = cc in
    let others : map decimal is ++ xs ≡ map decimal js ++ ys = cc in
    let (same, rest) = ids_same is js xs ys (All-tail IsId i is p) (All-tail IsId j js q) f g others in
    let one = decimal_injective i j (All-head IsId i is p) (All-head IsId j js q) first in
    (cc (one, same), rest)

pub objects_no_number : (n : ℕ) → n < 2 ^ 64 → codes "objects" ≡ decimal n → ⊥
objects_no_number n h e =
    let digits = subst (AllDigits 10) (sym e) (decimal_is_IsNumeral n h).0.1 in
    omega (arith, digits.0)

-- ids at the front of words
pub ids_front : (ns rest : List Name) (is : List ℕ) → map text_of (take (length is) ns) ≡ map decimal is
    → rest ≡ drop (length is) ns → map text_of ns ≡ map decimal is ++ map text_of rest
ids_front ns rest is front behind =
    sym (ap (map text_of) (take-append-drop (length is) ns)) ∙ map-append text_of (take (length is) ns) (drop (length is) ns)
    ∙ ap₂ (λ a b. a ++ map text_of b) front (sym behind)

pub no_end : (rest : List Name) → length rest ≡ 0 → (os : List (List ℕ)) → map text_of rest ≡ codes "objects" ∷ os → ⊥
no_end [] e os f = absurd cc
no_end (n ∷ rest) e os f = omega (arith, e)

pub no_mark : (rest names : List Name) (mark : Name) → rest ≡ mark ∷ names → bytes_eq (text_of mark) (codes "objects") ≡ false
    → (os : List (List ℕ)) → map text_of rest ≡ codes "objects" ∷ os → ⊥
no_mark rest names mark e never os f =
    let whole : text_of mark ∷ map text_of names ≡ codes "objects" ∷ os = sym (ap (map text_of) e) ∙ f in
    is_not (text_of mark) (codes "objects") never cc

pub no_choice : (ws others rest : List (List ℕ)) (m : List ℕ) (is : List ℕ) → ws ≡ m ∷ others → others ≡ map decimal is ++ rest
    → All IsId is → IsNoNumberAt rest → ((os : List (List ℕ)) → rest ≡ codes "objects" ∷ os → ⊥) → IsChoiceRead ws None
no_choice ws others rest m is e f p g never = λ c h same.
    let is_rest : others ≡ map decimal c.children.items ++ codes "objects" ∷ map text_of c.objects.items = cc (e, same) in
    let (_, end) = ids_same is c.children.items rest (codes "objects" ∷ map text_of c.objects.items) p h g
    (λ n. objects_no_number n) (sym f ∙ is_rest) in
    never (map text_of c.objects.items) end

pub choice_read : (ws others rest : List (List ℕ)) (m o : List ℕ) (os : List (List ℕ)) (is : List ℕ) → ws ≡ m ∷ others
    → others ≡ map decimal is ++ rest → rest ≡ o ∷ os → bytes_eq m (codes "children") ≡ true → bytes_eq o (codes "objects") ≡ true
    → ws ≡ codes "children" ∷ (map decimal is ++ codes "objects" ∷ os)
choice_read ws others rest m o os is e f g mark objects =
    e ∙ ap₂ (λ a b. a ∷ b) (is_so m (codes "children") mark)
    (f ∙ ap (λ t. map decimal is ++ t) (g ∙ ap (λ t. t ∷ os) (is_so o (codes "objects") objects)))

-- the lines as words

ids_words : (is : List ℕ) → ids_text is ≡ words_text (map decimal is)
ids_words [] = refl
ids_words (i ∷ is) = ap₂ (λ a b. (32 ∷ a) ++ b) (append-nil (decimal i)) (ids_words is)

names_text_words : (ns : List Name) → names_text ns ≡ words_text (map text_of ns)
names_text_words [] = refl
names_text_words (n ∷ ns) = ap (λ t. (32 ∷ text_of n) ++ t) (names_text_words ns)

words_append : (us vs : List (List ℕ)) → words_text (us ++ vs) ≡ words_text us ++ words_text vs
words_append us vs = flat_map-append (λ w. codes " " ++ w) us vs

choice_line : (c : Choice) → choice_text c ≡ words_text (choice_words c)
choice_line c =
    ap₂ (λ a b. codes " children" ++ (a ++ (codes " objects" ++ b))) (ids_words c.children.items) (names_text_words c.objects.items)
    ∙ sym (ap (λ t. codes " children" ++ t) (words_append (map decimal c.children.items) (codes "objects" ∷ map text_of c.objects.items)))

pub root_line : (c : Choice) → root_text c ≡ line_text (codes "root") (choice_words c)
root_line c = ap (λ t. codes "root" ++ (t ++ codes "\n")) (choice_line c)

index_words : (n : ℕ) → words_text (codes "pre" ∷ decimal n ∷ []) ++ codes "\n" ≡ codes " pre " ++ (decimal n ++ codes "\n")
index_words n = ap (λ t. codes " pre " ++ (t ++ codes "\n")) (append-nil (decimal n))

pub node_line : (e : ℕ × Choice × ℕ) → node_text e ≡ line_text (decimal e.0) (node_words e)
node_line e =
    let words : words_text (node_words e) ++ codes "\n" ≡ choice_text e.1 ++ (codes " pre " ++ (decimal e.2 ++ codes "\n")) =
    ap (λ t. t ++ codes "\n") (words_append (choice_words e.1) (codes "pre" ∷ decimal e.2 ∷ []))
    ∙ append_assoc (words_text (choice_words e.1)) (words_text (codes "pre" ∷ decimal e.2 ∷ [])) (codes "\n")
    ∙ ap₂ (λ a b. a ++ b) (sym (choice_line e.1)) (index_words e.2) in
    append_assoc (decimal e.0) (choice_text e.1) (codes " pre " ++ (decimal e.2 ++ codes "\n"))
    ∙ ap (λ t. decimal e.0 ++ t) (sym words)

-- these are words

are_append : (us vs : List (List ℕ)) → AreWords us → AreWords vs → AreWords (us ++ vs)
are_append [] vs p q = q
are_append (u ∷ us) vs p q = (p.0, are_append us vs p.1 q)

ids_are : (is : List ℕ) → All IsId is → AreWords (map decimal is)
ids_are [] p = tt
ids_are (i ∷ is) p = (decimal_word i (All-head IsId i is p), ids_are is (All-tail IsId i is p))

literal : (w : List ℕ) → begins w ≡ true → list_all is_name_byte w ≡ true → IsWord w
literal w p q = record { some = p; letters = q }

pub choice_are : (c : Choice) → HasIds c → AreWords (choice_words c)
choice_are c p = (
  literal (codes "children") refl refl,
  are_append (map decimal c.children.items) (codes "objects" ∷ map text_of c.objects.items)
      (ids_are c.children.items p) (literal (codes "objects") refl refl, names_words c.objects.items),
)

pub root_word : IsWord (codes "root")
root_word = literal (codes "root") refl refl

pub node_are : (e : ℕ × Choice × ℕ) → IsLine e → AreWords (node_words e)
node_are e p =
    let small : e.2 < 2 ^ 64 = omega (arith, p.2) in
    are_append (choice_words e.1) (codes "pre" ∷ decimal e.2 ∷ []) (choice_are e.1 p.1)
    (literal (codes "pre") refl refl, (decimal_word e.2 small, tt))

-- the line of `root` at the front

pub no_root_line : (left : List ℕ) → ((w : List ℕ) (ws : List (List ℕ)) (rest : List ℕ) → IsWord w → AreWords ws → left ≡ line_text w ws ++ rest → ⊥)
    → NoRoot left
no_root_line left never = λ c rest h e.
    never (codes "root") (choice_words c) rest root_word (choice_are c h) (e ∙ ap (λ t. t ++ rest) (root_line c))

root_same : (left f behind : List ℕ) (ws : List (List ℕ)) → left ≡ line_text f ws ++ behind → IsWord f → AreWords ws
    → (c : Choice) (rest : List ℕ) → HasIds c → left ≡ root_text c ++ rest → (f ≡ codes "root") × (ws ≡ choice_words c) × (behind ≡ rest)
root_same left f behind ws e p ps c rest h g =
    lines_same f (codes "root") ws (choice_words c) behind rest p ps root_word (choice_are c h) (sym e ∙ g ∙ ap (λ t. t ++ rest) (root_line c))

pub no_root_first : (left f behind : List ℕ) (ws : List (List ℕ)) → left ≡ line_text f ws ++ behind → IsWord f → AreWords ws
    → bytes_eq f (codes "root") ≡ false → NoRoot left
no_root_first left f behind ws e p ps never = λ c rest h g.
    is_not f (codes "root") never (root_same left f behind ws e p ps c rest h g).0

pub no_root_choice : (left f behind : List ℕ) (ws : List (List ℕ)) → left ≡ line_text f ws ++ behind → IsWord f → AreWords ws
    → IsChoiceRead ws None → NoRoot left
no_root_choice left f behind ws e p ps never = λ c rest h g.
    never c h (root_same left f behind ws e p ps c rest h g).1

pub root_read : (left f behind : List ℕ) (ws : List (List ℕ)) (c : Choice) → left ≡ line_text f ws ++ behind
    → bytes_eq f (codes "root") ≡ true → ws ≡ choice_words c → left ≡ root_text c ++ behind
root_read left f behind ws c e first words =
    e ∙ ap₂ (λ a b. line_text a b ++ behind) (is_so f (codes "root") first) words ∙ ap (λ t. t ++ behind) (sym (root_line c))

-- the line of a decomposition line at the front

pub no_node_line : (left : List ℕ) → ((w : List ℕ) (ws : List (List ℕ)) (rest : List ℕ) → IsWord w → AreWords ws → left ≡ line_text w ws ++ rest → ⊥)
    → NoNode left
no_node_line left never = λ l rest h e.
    never (decimal l.0) (node_words l) rest (decimal_word l.0 h.0) (node_are l h) (e ∙ ap (λ t. t ++ rest) (node_line l))

node_same : (left f behind : List ℕ) (ws : List (List ℕ)) → left ≡ line_text f ws ++ behind → IsWord f → AreWords ws
    → (l : ℕ × Choice × ℕ) (rest : List ℕ) → IsLine l → left ≡ node_text l ++ rest → (f ≡ decimal l.0) × (ws ≡ node_words l) × (behind ≡ rest)
node_same left f behind ws e p ps l rest h g =
    lines_same f (decimal l.0) ws (node_words l) behind rest p ps (decimal_word l.0 h.0) (node_are l h) (sym e ∙ g ∙ ap (λ t. t ++ rest) (node_line l))

pub no_node_id : (left f behind : List ℕ) (ws : List (List ℕ)) → left ≡ line_text f ws ++ behind → IsWord f → AreWords ws
    → IsNoNumber f → NoNode left
no_node_id left f behind ws e p ps never = λ l rest h g. never l.0 h.0 (node_same left f behind ws e p ps l rest h g).0

pub no_node_index : (left f behind : List ℕ) (ws : List (List ℕ)) → left ≡ line_text f ws ++ behind → IsWord f → AreWords ws
    → IsNoIndex ws → NoNode left
no_node_index left f behind ws e p ps never = λ l rest h g.
    never (choice_words l.1) l.2 h.2 (node_same left f behind ws e p ps l rest h g).1

pub no_node_choice : (left f behind : List ℕ) (ws vs : List (List ℕ)) (n : ℕ) → left ≡ line_text f ws ++ behind → IsWord f → AreWords ws
    → ws ≡ vs ++ codes "pre" ∷ decimal n ∷ [] → IsChoiceRead vs None → NoNode left
no_node_choice left f behind ws vs n e p ps i never = λ l rest h g.
    let words = (node_same left f behind ws e p ps l rest h g).1 in
    never l.1 h.1 (same_two vs (choice_words l.1) (codes "pre") (decimal n) (codes "pre") (decimal l.2) (sym i ∙ words)).0

pub node_read : (left f behind : List ℕ) (ws vs : List (List ℕ)) (l : ℕ × Choice × ℕ) → left ≡ line_text f ws ++ behind
    → f ≡ decimal l.0 → ws ≡ vs ++ codes "pre" ∷ decimal l.2 ∷ [] → vs ≡ choice_words l.1 → left ≡ node_text l ++ behind
node_read left f behind ws vs l e first i words =
    e ∙ ap₂ (λ a b. line_text a b ++ behind) first (i ∙ ap (λ t. t ++ codes "pre" ∷ decimal l.2 ∷ []) words)
    ∙ ap (λ t. t ++ behind) (sym (node_line l))
