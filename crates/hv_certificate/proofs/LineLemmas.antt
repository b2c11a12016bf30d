-- The lines of a text, and the first that is not of its form.
use Rattle.std.proofs.Common.{◌≡◌, ◌==◌, ◌<◌, ◌≤◌, ◌+◌, ℕ, Bool, true, false, true≢false, not, zero, suc, List, [], ◌∷◌, ◌++◌, refl, sym, ap, subst, ◌∙◌, arith, append_assoc, append-nil, All, codes, decimal, length, length-append}
use Rattle.std.proofs.lemmas.Grind.{common_steps}
use Rattle.std.proofs.lemmas.List.{length_push}
use Rattle.std.proofs.lemmas.List.Concat.{flat_map-append}
use Rattle.std.proofs.lemmas.List.Elements.{All-push}
use Rattle.std.specs.List.{list_all}
use Rattle.hv_lists.proofs.Bools.{both_true}
use Rattle.hv_text.specs.declared.fault.TheConstants.{MOST_BYTES}
use Rattle.hv_certificate.specs.Texts.{root_text, node_text, nodes_text}
use Rattle.hv_certificate.specs.Forms.{HasIds, IsLine, with_byte, lines, IsOfForm, IsFirstOff, missing, off, later, IsCertFault}
use Rattle.hv_certificate.specs.inside.Words.{is_name_byte, IsWord, AreWords, words_text, line_text, choice_words, node_words}
use Rattle.hv_certificate.specs.inside.Reading.{NoFirst, NoRoot, NoNode, IsOff}
use Rattle.hv_certificate.specs.declared.certificate.Choice.{Choice}
use Rattle.hv_certificate.specs.declared.fault.CertFault.{CertFault}
use Rattle.hv_certificate.specs.declared.fault.CertFault.TheVariants as faults
use Rattle.hv_certificate.proofs.WordLemmas.{decimal_word}
use Rattle.hv_certificate.proofs.FormLemmas.{root_line, node_line, root_word, choice_are, node_are}

-- a byte that ends no line
abbrev pub is_inner : ℕ → Bool
is_inner b = not (b == 10)

lines_by : (b : ℕ) (m x : List ℕ) → (b == 10) ≡ false → lines (m ++ (10 ∷ x)) ≡ (m ++ (10 ∷ [])) ∷ lines x
    → lines (b ∷ (m ++ (10 ∷ x))) ≡ (b ∷ (m ++ (10 ∷ []))) ∷ lines x
lines_by b m x e h = rw (e, h) refl

inner_false : (b : ℕ) → is_inner b ≡ true → (b == 10) ≡ false
inner_false b e = grind (arith, common_steps)

-- a line, and what stands behind it
lines_cons : (m x : List ℕ) → list_all is_inner m ≡ true → lines (m ++ (10 ∷ x)) ≡ (m ++ (10 ∷ [])) ∷ lines x
lines_cons [] x e = refl
lines_cons (b ∷ m) x e =
    let h = both_true (is_inner b) (list_all is_inner m) e in
    lines_by b m x (inner_false b h.0) (lines_cons m x h.1)

-- bytes are a line by themselves
abbrev pub IsOne : List ℕ → Type 0
IsOne l = (x : List ℕ) → lines (l ++ x) ≡ l ∷ lines x

inner_letter : (b : ℕ) → is_name_byte b ≡ true → is_inner b ≡ true
inner_letter b e = grind (arith, common_steps)

inner_word : (w m : List ℕ) → list_all is_name_byte w ≡ true → list_all is_inner m ≡ true → list_all is_inner (w ++ m) ≡ true
inner_word [] m p q = q
inner_word (b ∷ w) m p q =
    let h = both_true (is_name_byte b) (list_all is_name_byte w) p in
    rw (inner_letter b h.0) (inner_word w m h.1 q)

inner_words : (ws : List (List ℕ)) → AreWords ws → list_all is_inner (words_text ws) ≡ true
inner_words [] p = refl
inner_words (w ∷ ws) p = inner_word w (words_text ws) p.0.letters (inner_words ws p.1)

line_one : (w : List ℕ) (ws : List (List ℕ)) → IsWord w → AreWords ws → IsOne (line_text w ws)
line_one w ws p ps = λ x.
    let m = w ++ words_text ws in
    let whole : line_text w ws ≡ m ++ codes "\n" = sym (append_assoc w (words_text ws) (codes "\n")) in
    let behind : line_text w ws ++ x ≡ m ++ (10 ∷ x) = ap (λ t. t ++ x) whole ∙ append_assoc m (codes "\n") x in
    ap lines behind ∙ lines_cons m x (inner_word w (words_text ws) p.letters (inner_words ws ps))
    ∙ ap (λ t. t ∷ lines x) (sym whole)

pub first_one : IsOne (codes "solves\n")
first_one = λ x. refl

pub root_one : (c : Choice) → HasIds c → IsOne (root_text c)
root_one c h = subst IsOne (sym (root_line c)) (line_one (codes "root") (choice_words c) root_word (choice_are c h))

pub node_one : (e : ℕ × Choice × ℕ) → IsLine e → IsOne (node_text e)
node_one e h = subst IsOne (sym (node_line e)) (line_one (decimal e.0) (node_words e) (decimal_word e.0 h.0) (node_are e h))

-- the first line of a text stands at its front

first_with : (b : ℕ) (bs l : List ℕ) (ms ls : List (List ℕ)) → lines bs ≡ ms
    → ((m : List ℕ) (rest : List (List ℕ)) → lines bs ≡ m ∷ rest → (x : List ℕ) × (bs ≡ m ++ x))
    → with_byte b ms ≡ l ∷ ls → (x : List ℕ) × (b ∷ bs ≡ l ++ x)
first_with b bs l [] ls e again h =
    let is : l ≡ b ∷ [] = cc in (bs, rw is refl)
first_with b bs l (m ∷ ms) ls e again h =
    let is : l ≡ b ∷ m = cc in
    let (x, whole) = again m ms e in
    (x, rw is (ap (λ t. b ∷ t) whole))

first_by : (b : ℕ) (bs l : List ℕ) (ls : List (List ℕ)) (v : Bool) → (b == 10) ≡ v
    → ((m : List ℕ) (rest : List (List ℕ)) → lines bs ≡ m ∷ rest → (x : List ℕ) × (bs ≡ m ++ x))
    → lines (b ∷ bs) ≡ l ∷ ls → (x : List ℕ) × (b ∷ bs ≡ l ++ x)
first_by b bs l ls true e again h =
    let made : (b ∷ []) ∷ lines bs ≡ l ∷ ls = rw e at h in
    let is : l ≡ b ∷ [] = cc in (bs, rw is refl)
first_by b bs l ls false e again h = first_with b bs l (lines bs) ls refl again (rw e at h)

pub first_line : (t l : List ℕ) (ls : List (List ℕ)) → lines t ≡ l ∷ ls → (x : List ℕ) × (t ≡ l ++ x)
first_line [] l ls e = absurd cc
first_line (b ∷ bs) l ls e = first_by b bs l ls (b == 10) refl (first_line bs) e

-- the first line that is not of its form

pub step : (n k : ℕ) (t l x : List ℕ) → t ≡ l ++ x → IsOne l → IsOfForm n l → IsFirstOff (n + 1) (lines x) k → IsFirstOff n (lines t) k
step n k t l x e one form h = rw (e, one x) (later n k l (lines x) form h)

some_with : (b : ℕ) (ms : List (List ℕ)) → with_byte b ms ≡ [] → ⊥
some_with b [] e = absurd cc
some_with b (m ∷ ms) e = absurd cc

some_by : (b : ℕ) (bs : List ℕ) (v : Bool) → (b == 10) ≡ v → lines (b ∷ bs) ≡ [] → ⊥
some_by b bs true e h =
    let made : (b ∷ []) ∷ lines bs ≡ [] = rw e at h in absurd cc
some_by b bs false e h = some_with b (lines bs) (rw e at h)

no_lines : (t : List ℕ) → lines t ≡ [] → length t ≡ 0
no_lines [] e = refl
no_lines (b ∷ bs) e = absurd (some_by b bs (b == 10) refl e)

off_with : (n : ℕ) (t : List ℕ) (ls : List (List ℕ)) → lines t ≡ ls → (length t ≡ 0 → n < 2)
    → ((l x : List ℕ) → t ≡ l ++ x → IsOfForm n l → ⊥) → IsFirstOff n ls (n + 1)
off_with n t [] e h never = missing n (h (no_lines t e))
off_with n t (l ∷ ls) e h never = off n l ls (λ form. let (x, whole) = first_line t l ls e in never l x whole form)

-- no line of its form stands at the front
pub off_here : (n : ℕ) (t : List ℕ) → (length t ≡ 0 → n < 2)
    → ((l x : List ℕ) → t ≡ l ++ x → IsOfForm n l → ⊥) → IsFirstOff n (lines t) (n + 1)
off_here n t h never = off_with n t (lines t) refl h never

-- from the third line on

pub node_form : (n : ℕ) (e : ℕ × Choice × ℕ) → 2 ≤ n → IsLine e → IsOfForm n (node_text e)
node_form zero e le h = absurd (omega arith)
node_form (suc zero) e le h = absurd (omega arith)
node_form (suc (suc n)) e le h = (e, h, refl)

no_node_form : (n : ℕ) (t l x : List ℕ) → 2 ≤ n → NoNode t → t ≡ l ++ x → IsOfForm n l → ⊥
no_node_form zero t l x le never e form = absurd (omega arith)
no_node_form (suc zero) t l x le never e form = absurd (omega arith)
no_node_form (suc (suc n)) t l x le never e form =
    let (node, h, is) = form in never node x h (e ∙ ap (λ s. s ++ x) is)

pub node_off : (n : ℕ) (t : List ℕ) → 2 ≤ n → (length t ≡ 0 → ⊥) → NoNode t → IsFirstOff n (lines t) (n + 1)
node_off n t le some never = off_here n t (λ e. absurd (some e)) (λ l x. no_node_form n t l x le never)

-- the first fault of what is left is that of the whole
abbrev pub Passes : ℕ → List ℕ → List ℕ → Type 0
Passes n rest whole = (k : ℕ) → IsFirstOff n (lines rest) k → IsFirstOff 2 (lines whole) k

pub passes_node : (n m : ℕ) (whole rest behind : List ℕ) (e : ℕ × Choice × ℕ) → m ≡ n + 1 → 2 ≤ n → IsLine e → rest ≡ node_text e ++ behind
    → Passes n rest whole → Passes m behind whole
passes_node n m whole rest behind e is le h split before = λ k fault.
    before k (step n k rest (node_text e) behind split (node_one e h) (node_form n e le h) (subst (λ i. IsFirstOff i (lines behind) k) is fault))

-- the first two lines

pub first_off : (t : List ℕ) → NoFirst t → IsFirstOff 0 (lines t) 1
first_off t never = off_here 0 t (λ e. omega arith) (λ l x e form. never x (e ∙ ap (λ s. s ++ x) form))

pub root_off : (t rest : List ℕ) → t ≡ codes "solves\n" ++ rest → NoRoot rest → IsFirstOff 0 (lines t) 2
root_off t rest e never =
    step 0 2 t (codes "solves\n") rest e first_one refl
    (off_here 1 rest (λ f. omega arith) (λ l x f form. let (c, h, is) = form in never c x h (f ∙ ap (λ s. s ++ x) is)))

pub nodes_off : (t rest behind : List ℕ) (c : Choice) (k : ℕ) → t ≡ codes "solves\n" ++ rest → rest ≡ root_text c ++ behind → HasIds c
    → IsFirstOff 2 (lines behind) k → IsFirstOff 0 (lines t) k
nodes_off t rest behind c k e f h fault =
    step 0 k t (codes "solves\n") rest e first_one refl (step 1 k rest (root_text c) behind f (root_one c h) (c, h, refl) fault)

pub shorter : (t a b : List ℕ) → t ≡ a ++ b → length b ≤ length t
shorter t a b e = omega (arith, ap length e, length-append a b)

-- the lines so far, and what is left, are the whole; the first fault of what is left is that of the
-- whole
abbrev pub Reads : List ℕ → List (ℕ × Choice × ℕ) → List ℕ → ℕ → Type 0
Reads left ls rest number =
    (number ≡ length ls + 3)
    × (number + length rest ≤ MOST_BYTES + 3)
    × (left ≡ nodes_text ls ++ rest)
    × All IsLine ls
    × Passes (length ls + 2) rest left

pub reads_more : (left rest behind : List ℕ) (ls more : List (ℕ × Choice × ℕ)) (e : ℕ × Choice × ℕ) (number : ℕ) → more ≡ ls ++ e ∷ []
    → IsLine e → rest ≡ node_text e ++ behind → length behind < length rest → Reads left ls rest number → Reads left more behind (number + 1)
reads_more left rest behind ls more e number is h split less before =
    let count : length more ≡ length ls + 1 = ap length is ∙ length_push ls e in
    let texts : nodes_text more ≡ nodes_text ls ++ node_text e =
    ap nodes_text is ∙ flat_map-append node_text ls (e ∷ []) ∙ ap (λ t. nodes_text ls ++ t) (append-nil (node_text e)) in
    let whole : left ≡ nodes_text more ++ behind =
    before.2 ∙ ap (λ t. nodes_text ls ++ t) split ∙ sym (append_assoc (nodes_text ls) (node_text e) behind) ∙ ap (λ t. t ++ behind) (sym texts) in (
      omega (arith, before.0),
      omega (arith, before.1),
      whole,
      rw is (All-push IsLine ls e before.3 h),
      passes_node (length ls + 2) (length more + 2) left rest behind e (omega arith) (omega arith) h split before.4,
    )

pub reads_off : (left rest : List ℕ) (ls : List (ℕ × Choice × ℕ)) (number : ℕ) → (length rest ≡ 0 → ⊥) → NoNode rest → Reads left ls rest number
    → IsFirstOff 2 (lines left) number
reads_off left rest ls number some never before =
    let here = node_off (length ls + 2) rest (omega arith) some never in
    before.4 number (subst (λ k. IsFirstOff (length ls + 2) (lines rest) k) (omega (arith, before.0)) here)

-- the fault of the lines from the third on
pub lines_fault : (text rest behind : List ℕ) (c : Choice) (f : CertFault) → length text ≤ MOST_BYTES → text ≡ codes "solves\n" ++ rest
    → rest ≡ root_text c ++ behind → HasIds c → IsOff behind f → IsCertFault text f
lines_fault text rest behind c faults.TooLong size e g h fault = absurd fault
lines_fault text rest behind c (faults.BadCertificate n) size e g h fault = (size, nodes_off text rest behind c n e g h fault)
lines_fault text rest behind c faults.Memory size e g h fault = size

pub some_left : (rest : List ℕ) (b : Bool) → b ≡ (length rest == 0) → b ≡ false → length rest ≡ 0 → ⊥
some_left [] b e f g = true≢false (sym e ∙ f)
some_left (x ∷ rest) b e f g = omega (arith, g)
