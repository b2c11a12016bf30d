-- A certificate and its text are one.
use Rattle.std.proofs.Common.{◌≡◌, ◌≤◌, ◌+◌, ℕ, true≢false, List, [], ◌∷◌, ◌++◌, refl, sym, ap, ap₂, subst, ◌∙◌, arith, append_assoc, codes, decimal, map, drop, All}
use Rattle.std.proofs.lemmas.Fmt.{decimal_injective}
use Rattle.std.proofs.lemmas.List.Elements.{All-head, All-tail}
use Rattle.std.specs.List.{flat_map}
use Rattle.hv_text.specs.Names.{text_of}
use Rattle.hv_certificate.specs.Texts.{root_text, node_text, nodes_text, certificate_text, cert_text}
use Rattle.hv_certificate.specs.Views.{ChoiceView, LineView, CertificateView, choice_view, line_view, certificate_view}
use Rattle.hv_certificate.specs.Forms.{HasIds, IsLine, HasNumbers, lines, IsOfForm, IsFirstOff, missing, off, later, IsCertText, IsCertFault}
use Rattle.hv_certificate.specs.inside.Words.{begins, line_text, words_text, choice_words, node_words}
use Rattle.hv_certificate.specs.declared.certificate.Choice.{Choice}
use Rattle.hv_certificate.specs.declared.certificate.Certificate.{Certificate}
use Rattle.hv_certificate.specs.declared.fault.CertFault.{CertFault}
use Rattle.hv_certificate.specs.declared.fault.CertFault.TheVariants as faults
use Rattle.hv_certificate.proofs.WordLemmas.{decimal_word, lines_same, word_begins}
use Rattle.hv_certificate.proofs.FormLemmas.{root_line, node_line, root_word, choice_are, node_are, ids_same, objects_no_number, same_two}
use Rattle.hv_certificate.proofs.LineLemmas.{first_one, root_one, node_one, node_form}

-- equal certificates have equal bytes

abbrev view_words : ChoiceView → List (List ℕ)
view_words v = codes "children" ∷ map decimal v.children ++ codes "objects" ∷ v.objects

abbrev root_view_text : ChoiceView → List ℕ
root_view_text v = line_text (codes "root") (view_words v)

abbrev line_view_text : LineView → List ℕ
line_view_text v = line_text (decimal v.id) (view_words v.choice ++ codes "pre" ∷ decimal v.index ∷ [])

abbrev view_text : CertificateView → List ℕ
view_text v = codes "solves\n" ++ (root_view_text v.root ++ flat_map line_view_text v.lines)

nodes_view : (ls : List (ℕ × Choice × ℕ)) → nodes_text ls ≡ flat_map line_view_text (map line_view ls)
nodes_view [] = refl
nodes_view (l ∷ ls) = ap₂ (λ a b. a ++ b) (node_line l) (nodes_view ls)

by_view : (c : Certificate) → cert_text c ≡ view_text (certificate_view c)
by_view c = ap₂ (λ a b. codes "solves\n" ++ (a ++ b)) (root_line c.root) (nodes_view c.lines.items)

pub same_bytes : (c e : Certificate) → certificate_view c ≡ certificate_view e → cert_text c ≡ cert_text e
same_bytes c e same = by_view c ∙ ap view_text same ∙ sym (by_view e)

-- equal bytes are of equal certificates

choice_same : (c d : Choice) → HasIds c → HasIds d → choice_words c ≡ choice_words d → choice_view c ≡ choice_view d
choice_same c d p q e =
    let others : map decimal c.children.items ++ codes "objects" ∷ map text_of c.objects.items
    ≡ map decimal d.children.items ++ codes "objects" ∷ map text_of d.objects.items = ap (drop 1) e in
    let (ids, rest) = ids_same c.children.items d.children.items (codes "objects" ∷ map text_of c.objects.items) (codes "objects" ∷ map text_of d.objects.items)
    p q (λ n. objects_no_number n) (λ n. objects_no_number n) others in
    ap₂ (λ a b. record { children = a; objects = b }) ids (ap (drop 1) rest)

line_same : (l m : ℕ × Choice × ℕ) → IsLine l → IsLine m → decimal l.0 ≡ decimal m.0 → node_words l ≡ node_words m → line_view l ≡ line_view m
line_same l m p q e f =
    let (words, _, last) = same_two (choice_words l.1) (choice_words m.1) (codes "pre") (decimal l.2) (codes "pre") (decimal m.2) f in
    let id = decimal_injective l.0 m.0 p.0 q.0 e in
    let index = decimal_injective l.2 m.2 (omega (arith, p.2)) (omega (arith, q.2)) last in
    let choice = choice_same l.1 m.1 p.1 q.1 words in
    ap₂ (λ a b. record { id = a; choice = b; index = l.2 }) id choice
    ∙ ap (λ a. record { id = m.0; choice = choice_view m.1; index = a }) index

node_some : (l : ℕ × Choice × ℕ) (rest : List ℕ) → IsLine l → [] ≡ node_text l ++ rest → ⊥
node_some l rest p e =
    let is : [] ≡ decimal l.0 ++ ((words_text (node_words l) ++ codes "\n") ++ rest) =
    e ∙ ap (λ t. t ++ rest) (node_line l) ∙ append_assoc (decimal l.0) (words_text (node_words l) ++ codes "\n") rest in
    let begun = word_begins (decimal l.0) ((words_text (node_words l) ++ codes "\n") ++ rest) (decimal_word l.0 p.0).some in
    true≢false (sym begun ∙ sym (ap begins is))

nodes_same : (ls ms : List (ℕ × Choice × ℕ)) → All IsLine ls → All IsLine ms → nodes_text ls ≡ nodes_text ms → map line_view ls ≡ map line_view ms
nodes_same [] [] p q e = refl
nodes_same [] (m ∷ ms) p q e = absurd (node_some m (nodes_text ms) (All-head IsLine m ms q) e)
nodes_same (l ∷ ls) [] p q e = absurd (node_some l (nodes_text ls) (All-head IsLine l ls p) (sym e))
nodes_same (l ∷ ls) (m ∷ ms) p q e =
    let hl = All-head IsLine l ls p in
    let hm = All-head IsLine m ms q in
    let whole = sym (ap (λ t. t ++ nodes_text ls) (node_line l)) ∙ e ∙ ap (λ t. t ++ nodes_text ms) (node_line m) in
    let (id, words, rest) = lines_same (decimal l.0) (decimal m.0) (node_words l) (node_words m) (nodes_text ls) (nodes_text ms)
    (decimal_word l.0 hl.0) (node_are l hl) (decimal_word m.0 hm.0) (node_are m hm) whole in
    ap₂ (λ a b. a ∷ b) (line_same l m hl hm id words) (nodes_same ls ms (All-tail IsLine l ls p) (All-tail IsLine m ms q) rest)

pub same_certificate : (c e : Certificate) → HasNumbers c → HasNumbers e → cert_text c ≡ cert_text e → certificate_view c ≡ certificate_view e
same_certificate c e p q same =
    let behind : certificate_text c ≡ certificate_text e = ap (drop 7) same in
    let whole = sym (ap (λ t. t ++ nodes_text c.lines.items) (root_line c.root)) ∙ behind ∙ ap (λ t. t ++ nodes_text e.lines.items) (root_line e.root) in
    let (_, words, rest) = lines_same (codes "root") (codes "root") (choice_words c.root) (choice_words e.root) (nodes_text c.lines.items) (nodes_text e.lines.items)
    root_word (choice_are c.root p.0) root_word (choice_are e.root q.0) whole in
    ap₂ (λ a b. record { root = a; lines = b }) (choice_same c.root e.root p.0 q.0 words) (nodes_same c.lines.items e.lines.items p.1 q.1 rest)

-- a certificate's text has no fault

-- the first line is of its form: the fault is behind it
behind_form : (n k : ℕ) (l : List ℕ) (ls : List (List ℕ)) → IsOfForm n l → IsFirstOff n (l ∷ ls) k → IsFirstOff (n + 1) ls k
behind_form _ _ _ _ form (off n l ls never) = absurd (never form)
behind_form _ _ _ _ form (later n k l ls is more) = more

no_fault : (n k : ℕ) → 2 ≤ n → IsFirstOff n [] k → ⊥
no_fault _ _ le (missing n lt) = omega arith

nodes_formed : (ls : List (ℕ × Choice × ℕ)) (n k : ℕ) → 2 ≤ n → All IsLine ls → IsFirstOff n (lines (nodes_text ls)) k → ⊥
nodes_formed [] n k le p fault = no_fault n k le fault
nodes_formed (e ∷ ls) n k le p fault =
    let h = All-head IsLine e ls p in
    let here : IsFirstOff n (node_text e ∷ lines (nodes_text ls)) k =
    subst (λ t. IsFirstOff n t k) (node_one e h (nodes_text ls)) fault in
    nodes_formed ls (n + 1) k (omega arith) (All-tail IsLine e ls p)
    (behind_form n k (node_text e) (lines (nodes_text ls)) (node_form n e le h) here)

formed : (c : Certificate) (k : ℕ) → HasNumbers c → IsFirstOff 0 (lines (cert_text c)) k → ⊥
formed c k p fault =
    let one : IsFirstOff 0 (codes "solves\n" ∷ lines (certificate_text c)) k =
    subst (λ t. IsFirstOff 0 t k) (first_one (certificate_text c)) fault in
    let two : IsFirstOff 1 (lines (certificate_text c)) k = behind_form 0 k (codes "solves\n") (lines (certificate_text c)) refl one in
    let here : IsFirstOff 1 (root_text c.root ∷ lines (nodes_text c.lines.items)) k =
    subst (λ t. IsFirstOff 1 t k) (root_one c.root p.0 (nodes_text c.lines.items)) two in
    nodes_formed c.lines.items 2 k (omega arith) p.1
    (behind_form 1 k (root_text c.root) (lines (nodes_text c.lines.items)) (c.root, p.0, refl) here)

pub faultless : (text : List ℕ) (c : Certificate) (f : CertFault) → IsCertText text c → IsCertFault text f → f ≡ faults.Memory
faultless text c faults.TooLong is fault = absurd (omega (arith, is.size, fault))
faultless text c (faults.BadCertificate n) is fault = absurd (formed c n is.numbers (subst (λ t. IsFirstOff 0 (lines t) n) is.spelled fault.1))
faultless text c faults.Memory is fault = refl

-- there is one fault

pub one_line : (n k m : ℕ) (ls : List (List ℕ)) → IsFirstOff n ls k → IsFirstOff n ls m → k ≡ m
one_line _ _ _ _ (missing n lt) (missing m lu) = refl
one_line _ _ _ _ (off n l ls never) (off m k ms other) = refl
one_line _ _ _ _ (off n l ls never) (later m i k ms is more) = absurd (never is)
one_line _ _ _ _ (later m i k ms is more) (off n l ls never) = absurd (never is)
one_line _ _ _ _ (later n k l ls is more) (later i m j ms so rest) = one_line (n + 1) k m ls more rest

pub one_fault : (text : List ℕ) (f g : CertFault) → IsCertFault text f → IsCertFault text g → (f ≡ faults.Memory → ⊥) → (g ≡ faults.Memory → ⊥) → f ≡ g
one_fault text faults.TooLong faults.TooLong p q i j = refl
one_fault text faults.TooLong (faults.BadCertificate m) p q i j = absurd (omega (arith, p, q.0))
one_fault text (faults.BadCertificate n) faults.TooLong p q i j = absurd (omega (arith, q, p.0))
one_fault text (faults.BadCertificate n) (faults.BadCertificate m) p q i j = ap faults.BadCertificate (one_line 0 n m (lines text) p.1 q.1)
one_fault text faults.Memory g p q i j = absurd (i refl)
one_fault text faults.TooLong faults.Memory p q i j = absurd (j refl)
one_fault text (faults.BadCertificate n) faults.Memory p q i j = absurd (j refl)
