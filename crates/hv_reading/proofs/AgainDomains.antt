-- The canonical expression of a domain is read as it, places aside.
use Rattle.std.proofs.Common.{◌≡◌, ℕ, false, List, [], ◌∷◌, ◌++◌, map, Option, Some, None, Ok, option_map, refl, sym, ap, ◌∙◌, subst, codes, if◌then◌else◌}
use Rattle.std.proofs.lemmas.List.{append-nil, append_assoc}
use Rattle.std.specs.Prelude.{IfSome, IfOk}
use Rattle.hv_text.specs.Trees.{Tree, Trees, none, more, trees_of}
use Rattle.hv_text.specs.Words.{nowhere}
use Rattle.hv_text.specs.declared.span.Span.{Span}
use Rattle.hv_reading.specs.declared.word.Sort.TheVariants as sorts
use Rattle.hv_syntax.specs.Values.{WordAt, Typed, Predicate, Task, Method, Action, Domain}
use Rattle.hv_reading.specs.Words.{is}
use Rattle.hv_reading.specs.inside.Words.{sorted_word_of}
use Rattle.hv_reading.specs.inside.Reading.{every}
use Rattle.hv_reading.specs.inside.TypedLists.{typed_list_of}
use Rattle.hv_reading.specs.inside.Declarations.{predicate_of, task_of, method_of, action_of}
use Rattle.hv_reading.specs.Unsupported.{has_unsupported}
use Rattle.hv_reading.specs.Sections.{occurs}
use Rattle.hv_reading.specs.inside.Sections.{keyword_of, sections_of, defined_with}
use Rattle.hv_syntax.specs.Domains.{DomainSection, has_requirements, has_types, has_constants, has_predicates, has_task, has_method, has_action, no_domain, add_section}
use Rattle.hv_reading.specs.Standings.{domain_standing}
use Rattle.hv_reading.specs.inside.Domains.{domain_section_by, domain_section, domain_from, domain_in, domain_of}
use Rattle.hv_reading.specs.Canonical.{form, each, word_expression, typed_members}
use Rattle.hv_reading.specs.CanonicalSections.{predicate_expression, task_section, method_section, action_section, unless_empty, section_of_each, domain_sections, domain_expression}
use Rattle.hv_reading.specs.Bare.{bare_word, bare_typed, bare_predicate, bare_task, bare_method, bare_action, bare_domain}
use Rattle.hv_reading.proofs.Again.{if_map, AreReadAgain, every_again, sorted_again, AreTypedAgain, typed_list_again}
use Rattle.hv_reading.proofs.AgainDeclarations.{predicate_again, task_members, IsTaskAgain, task_again, method_members, IsMethodAgain, method_again, action_members, IsActionAgain, action_again}
use Rattle.hv_reading.proofs.Parts.{Each, OfDomain, section_added}
use Rattle.hv_reading.proofs.AgainSections.{IsNameAgain, if_else, sections_again, sections_good, once_read, often_read, nor, not_in_other, Reads, reads_one, reads_none, reads_both, reads_all}

abbrev AreKeywordsAgain : List WordAt → Type 0
AreKeywordsAgain ws = AreReadAgain keyword_of word_expression bare_word ws

abbrev AreNamesAgain : List Typed → Type 0
AreNamesAgain vs = AreTypedAgain vs

abbrev ArePredicatesAgain : List Predicate → Type 0
ArePredicatesAgain ps = AreReadAgain predicate_of predicate_expression bare_predicate ps

abbrev IsSectionAgain : DomainSection → Type 0
IsSectionAgain (has_requirements ws) = AreKeywordsAgain ws
IsSectionAgain (has_types vs) = AreNamesAgain vs
IsSectionAgain (has_constants vs) = AreNamesAgain vs
IsSectionAgain (has_predicates ps) = ArePredicatesAgain ps
IsSectionAgain (has_task t) = IsTaskAgain t
IsSectionAgain (has_method m) = IsMethodAgain m
IsSectionAgain (has_action a) = IsActionAgain a

section_again : (w : List ℕ) (s : Span) (ts : Trees) → IfSome (domain_section_by w s ts) IsSectionAgain
section_again w s ts =
    let requirements : Option DomainSection = option_map has_requirements (every keyword_of ts) in
    let types : Option DomainSection = option_map has_types (typed_list_of ts) in
    let constants : Option DomainSection = option_map has_constants (typed_list_of ts) in
    let predicates : Option DomainSection = option_map has_predicates (every predicate_of ts) in
    let tasks : Option DomainSection = option_map has_task (task_of s ts) in
    let methods : Option DomainSection = option_map has_method (method_of s ts) in
    let actions : Option DomainSection = option_map has_action (action_of s ts) in
    let r6 : Option DomainSection = if is w (codes ":action") then actions else None in
    let r5 : Option DomainSection = if is w (codes ":method") then methods else r6 in
    let r4 : Option DomainSection = if is w (codes ":task") then tasks else r5 in
    let r3 : Option DomainSection = if is w (codes ":predicates") then predicates else r4 in
    let r2 : Option DomainSection = if is w (codes ":constants") then constants else r3 in
    let r1 : Option DomainSection = if is w (codes ":types") then types else r2 in
    if_else IsSectionAgain (is w (codes ":requirements")) requirements r1 (if_map has_requirements AreKeywordsAgain IsSectionAgain (λ x h. h) (every keyword_of ts) (every_again keyword_of word_expression bare_word (sorted_again sorts.Keyword) ts))
    (if_else IsSectionAgain (is w (codes ":types")) types r2 (if_map has_types AreNamesAgain IsSectionAgain (λ x h. h) (typed_list_of ts) (typed_list_again ts))
    (if_else IsSectionAgain (is w (codes ":constants")) constants r3 (if_map has_constants AreNamesAgain IsSectionAgain (λ x h. h) (typed_list_of ts) (typed_list_again ts))
    (if_else IsSectionAgain (is w (codes ":predicates")) predicates r4 (if_map has_predicates ArePredicatesAgain IsSectionAgain (λ x h. h) (every predicate_of ts) (every_again predicate_of predicate_expression bare_predicate predicate_again ts))
    (if_else IsSectionAgain (is w (codes ":task")) tasks r5 (if_map has_task IsTaskAgain IsSectionAgain (λ x h. h) (task_of s ts) (task_again s ts))
    (if_else IsSectionAgain (is w (codes ":method")) methods r6 (if_map has_method IsMethodAgain IsSectionAgain (λ x h. h) (method_of s ts) (method_again s ts))
    (if_else IsSectionAgain (is w (codes ":action")) actions None (if_map has_action IsActionAgain IsSectionAgain (λ x h. h) (action_of s ts) (action_again s ts)) tt))))))

-- all that a domain says is read again
abbrev IsDomainAgain : Domain → Type 0
IsDomainAgain d = OfDomain IsNameAgain IsSectionAgain d

domain_in_good : (o : Option (WordAt × Trees × Span)) → IfSome o (λ p. IsNameAgain p.0) → IfOk (domain_in o) IsDomainAgain
domain_in_good None h = tt
domain_in_good (Some (n, ts, s)) h =
    sections_good domain_standing domain_section_by IsSectionAgain section_again add_section IsDomainAgain (section_added IsNameAgain IsSectionAgain) ts (no_domain n) []
    (record { name = h; requirements = refl; types = refl; constants = refl; predicates = refl; tasks = tt; methods = tt; actions = tt })

domain_good : (ts : Trees) → IfOk (domain_of ts) IsDomainAgain
domain_good ts = domain_in_good (sections_of (codes "domain") ts) (sections_again (codes "domain") ts)

abbrev made : WordAt → List WordAt → List Typed → List Typed → List Predicate → List Task → List Method → List Action → Domain
made n rs ts cs ps ks ms xs = record { name = n; requirements = rs; types = ts; constants = cs; predicates = ps; tasks = ks; methods = ms; actions = xs }

abbrev Read : Domain → List Tree → List Tree → Domain → Type 0
Read = Reads domain_section add_section

-- the sections of a domain that the sections before make
module _ (n : WordAt) where
  requirements_read : (ws : List WordAt) → AreKeywordsAgain ws → Read (made n [] [] [] [] [] [] []) [] (unless_empty (codes ":requirements") (each word_expression ws)) (made n (map bare_word ws) [] [] [] [] [] [])
  requirements_read [] h = reads_none domain_section add_section (made n [] [] [] [] [] [] []) []
  requirements_read (w ∷ ws) h =
      let ts : Trees = each word_expression (w ∷ ws) in
      reads_one domain_section add_section (made n [] [] [] [] [] [] []) [] (form (codes ":requirements") ts) (has_requirements (map bare_word (w ∷ ws)))
      (once_read false (has_unsupported (codes ":requirements") ts) (option_map has_requirements (every keyword_of ts)) (has_requirements (map bare_word (w ∷ ws))) refl (ap (option_map has_requirements) h))

  types_read : (rs : List WordAt) (b : List Tree) (vs : List Typed) → occurs (codes ":types") b ≡ false → AreNamesAgain vs
      → Read (made n rs [] [] [] [] [] []) b (unless_empty (codes ":types") (typed_members vs)) (made n rs (map bare_typed vs) [] [] [] [] [])
  types_read rs b [] e h = reads_none domain_section add_section (made n rs [] [] [] [] [] []) b
  types_read rs b (v ∷ vs) e h =
      let ts : Trees = typed_members (v ∷ vs) in
      reads_one domain_section add_section (made n rs [] [] [] [] [] []) b (form (codes ":types") ts) (has_types (map bare_typed (v ∷ vs)))
      (once_read (occurs (codes ":types") b) (has_unsupported (codes ":types") ts) (option_map has_types (typed_list_of ts)) (has_types (map bare_typed (v ∷ vs))) e (ap (option_map has_types) h))

  constants_read : (rs : List WordAt) (ys : List Typed) (b : List Tree) (vs : List Typed) → occurs (codes ":constants") b ≡ false → AreNamesAgain vs
      → Read (made n rs ys [] [] [] [] []) b (unless_empty (codes ":constants") (typed_members vs)) (made n rs ys (map bare_typed vs) [] [] [] [])
  constants_read rs ys b [] e h = reads_none domain_section add_section (made n rs ys [] [] [] [] []) b
  constants_read rs ys b (v ∷ vs) e h =
      let ts : Trees = typed_members (v ∷ vs) in
      reads_one domain_section add_section (made n rs ys [] [] [] [] []) b (form (codes ":constants") ts) (has_constants (map bare_typed (v ∷ vs)))
      (once_read (occurs (codes ":constants") b) (has_unsupported (codes ":constants") ts) (option_map has_constants (typed_list_of ts)) (has_constants (map bare_typed (v ∷ vs))) e (ap (option_map has_constants) h))

  predicates_read : (rs : List WordAt) (ys zs : List Typed) (b : List Tree) (ps : List Predicate) → occurs (codes ":predicates") b ≡ false → ArePredicatesAgain ps
      → Read (made n rs ys zs [] [] [] []) b (unless_empty (codes ":predicates") (each predicate_expression ps)) (made n rs ys zs (map bare_predicate ps) [] [] [])
  predicates_read rs ys zs b [] e h = reads_none domain_section add_section (made n rs ys zs [] [] [] []) b
  predicates_read rs ys zs b (p ∷ ps) e h =
      let ts : Trees = each predicate_expression (p ∷ ps) in
      reads_one domain_section add_section (made n rs ys zs [] [] [] []) b (form (codes ":predicates") ts) (has_predicates (map bare_predicate (p ∷ ps)))
      (once_read (occurs (codes ":predicates") b) (has_unsupported (codes ":predicates") ts) (option_map has_predicates (every predicate_of ts)) (has_predicates (map bare_predicate (p ∷ ps))) e (ap (option_map has_predicates) h))

  module _ (rs : List WordAt) (ys zs : List Typed) (ps : List Predicate) where
    tasks_read : (xs : List Task) (front : List Task) (b : List Tree) → Each IsTaskAgain xs
        → Read (made n rs ys zs ps front [] []) b (section_of_each task_section xs) (made n rs ys zs ps (front ++ map bare_task xs) [] [])
    tasks_read [] front b h =
        subst (λ x. Read (made n rs ys zs ps front [] []) b [] (made n rs ys zs ps x [] [])) (sym (append-nil front)) (reads_none domain_section add_section (made n rs ys zs ps front [] []) b)
    tasks_read (x ∷ xs) front b h =
        let more_front : List Task = front ++ bare_task x ∷ [] in
        subst (λ y. Read (made n rs ys zs ps front [] []) b (section_of_each task_section (x ∷ xs)) (made n rs ys zs ps y [] [])) (append_assoc front (bare_task x ∷ []) (map bare_task xs))
        (reads_both domain_section add_section (made n rs ys zs ps front [] []) (made n rs ys zs ps more_front [] []) (made n rs ys zs ps (more_front ++ map bare_task xs) [] []) b (task_section x ∷ []) (section_of_each task_section xs)
        (reads_one domain_section add_section (made n rs ys zs ps front [] []) b (task_section x) (has_task (bare_task x))
        (often_read (has_unsupported (codes ":task") (task_members x)) (option_map has_task (task_of nowhere (task_members x))) (has_task (bare_task x)) (ap (option_map has_task) h.0)))
        (tasks_read xs more_front (b ++ task_section x ∷ []) h.1))

    methods_read : (ks : List Task) (xs : List Method) (front : List Method) (b : List Tree) → Each IsMethodAgain xs
        → Read (made n rs ys zs ps ks front []) b (section_of_each method_section xs) (made n rs ys zs ps ks (front ++ map bare_method xs) [])
    methods_read ks [] front b h =
        subst (λ x. Read (made n rs ys zs ps ks front []) b [] (made n rs ys zs ps ks x [])) (sym (append-nil front)) (reads_none domain_section add_section (made n rs ys zs ps ks front []) b)
    methods_read ks (x ∷ xs) front b h =
        let more_front : List Method = front ++ bare_method x ∷ [] in
        subst (λ y. Read (made n rs ys zs ps ks front []) b (section_of_each method_section (x ∷ xs)) (made n rs ys zs ps ks y [])) (append_assoc front (bare_method x ∷ []) (map bare_method xs))
        (reads_both domain_section add_section (made n rs ys zs ps ks front []) (made n rs ys zs ps ks more_front []) (made n rs ys zs ps ks (more_front ++ map bare_method xs) []) b (method_section x ∷ []) (section_of_each method_section xs)
        (reads_one domain_section add_section (made n rs ys zs ps ks front []) b (method_section x) (has_method (bare_method x))
        (often_read (has_unsupported (codes ":method") (method_members x)) (option_map has_method (method_of nowhere (method_members x))) (has_method (bare_method x)) (ap (option_map has_method) h.0)))
        (methods_read ks xs more_front (b ++ method_section x ∷ []) h.1))

    actions_read : (ks : List Task) (ms : List Method) (xs : List Action) (front : List Action) (b : List Tree) → Each IsActionAgain xs
        → Read (made n rs ys zs ps ks ms front) b (section_of_each action_section xs) (made n rs ys zs ps ks ms (front ++ map bare_action xs))
    actions_read ks ms [] front b h =
        subst (λ x. Read (made n rs ys zs ps ks ms front) b [] (made n rs ys zs ps ks ms x)) (sym (append-nil front)) (reads_none domain_section add_section (made n rs ys zs ps ks ms front) b)
    actions_read ks ms (x ∷ xs) front b h =
        let more_front : List Action = front ++ bare_action x ∷ [] in
        subst (λ y. Read (made n rs ys zs ps ks ms front) b (section_of_each action_section (x ∷ xs)) (made n rs ys zs ps ks ms y)) (append_assoc front (bare_action x ∷ []) (map bare_action xs))
        (reads_both domain_section add_section (made n rs ys zs ps ks ms front) (made n rs ys zs ps ks ms more_front) (made n rs ys zs ps ks ms (more_front ++ map bare_action xs)) b (action_section x ∷ []) (section_of_each action_section xs)
        (reads_one domain_section add_section (made n rs ys zs ps ks ms front) b (action_section x) (has_action (bare_action x))
        (often_read (has_unsupported (codes ":action") (action_members x)) (option_map has_action (action_of nowhere (action_members x))) (has_action (bare_action x)) (ap (option_map has_action) h.0)))
        (actions_read ks ms xs more_front (b ++ action_section x ∷ []) h.1))

all_read : (d : Domain) → IsDomainAgain d → Read (no_domain (bare_word d.name)) [] (domain_sections d) (bare_domain d)
all_read d g =
    let n : WordAt = bare_word d.name in
    let rs : List WordAt = map bare_word d.requirements in
    let ys : List Typed = map bare_typed d.types in
    let zs : List Typed = map bare_typed d.constants in
    let ps : List Predicate = map bare_predicate d.predicates in
    let ks : List Task = map bare_task d.tasks in
    let ms : List Method = map bare_method d.methods in
    let xs : List Action = map bare_action d.actions in
    let tr : Trees = each word_expression d.requirements in
    let r : List Tree = unless_empty (codes ":requirements") tr in
    let t : List Tree = unless_empty (codes ":types") (typed_members d.types) in
    let c : List Tree = unless_empty (codes ":constants") (typed_members d.constants) in
    let p : List Tree = unless_empty (codes ":predicates") (each predicate_expression d.predicates) in
    let k : List Tree = section_of_each task_section d.tasks in
    let m : List Tree = section_of_each method_section d.methods in
    let a : List Tree = section_of_each action_section d.actions in
    let from : Domain = made n [] [] [] [] [] [] [] in
    reads_both domain_section add_section from (made n rs ys zs ps ks ms []) (made n rs ys zs ps ks ms xs) [] (r ++ t ++ c ++ p ++ k ++ m) a
    (reads_both domain_section add_section from (made n rs ys zs ps ks [] []) (made n rs ys zs ps ks ms []) [] (r ++ t ++ c ++ p ++ k) m
    (reads_both domain_section add_section from (made n rs ys zs ps [] [] []) (made n rs ys zs ps ks [] []) [] (r ++ t ++ c ++ p) k
    (reads_both domain_section add_section from (made n rs ys zs [] [] [] []) (made n rs ys zs ps [] [] []) [] (r ++ t ++ c) p
    (reads_both domain_section add_section from (made n rs ys [] [] [] [] []) (made n rs ys zs [] [] [] []) [] (r ++ t) c
    (reads_both domain_section add_section from (made n rs [] [] [] [] [] []) (made n rs ys [] [] [] [] []) [] r t
    (requirements_read n d.requirements g.requirements)
    (types_read n rs r d.types (not_in_other (codes ":types") (codes ":requirements") tr refl) g.types))
    (constants_read n rs ys (r ++ t) d.constants
    (nor (codes ":constants") r t (not_in_other (codes ":constants") (codes ":requirements") tr refl) (not_in_other (codes ":constants") (codes ":types") (typed_members d.types) refl)) g.constants))
    (predicates_read n rs ys zs (r ++ t ++ c) d.predicates
    (nor (codes ":predicates") (r ++ t) c
    (nor (codes ":predicates") r t (not_in_other (codes ":predicates") (codes ":requirements") tr refl) (not_in_other (codes ":predicates") (codes ":types") (typed_members d.types) refl))
    (not_in_other (codes ":predicates") (codes ":constants") (typed_members d.constants) refl)) g.predicates))
    (tasks_read n rs ys zs ps d.tasks [] (r ++ t ++ c ++ p) g.tasks))
    (methods_read n rs ys zs ps ks d.methods [] (r ++ t ++ c ++ p ++ k) g.methods))
    (actions_read n rs ys zs ps ks ms d.actions [] (r ++ t ++ c ++ p ++ k ++ m) g.actions)

-- what is read of the name goes before what is read of the sections
named : (o : Option WordAt) (n : WordAt) (ts : Trees) → o ≡ Some n → domain_in (option_map (defined_with ts nowhere) o) ≡ domain_from (no_domain n) [] ts
named o n ts h = rw h refl

again : (d : Domain) → IsDomainAgain d → domain_of (more (domain_expression d) none) ≡ Ok (bare_domain d)
again d g =
    named (sorted_word_of sorts.Name (word_expression d.name)) (bare_word d.name) (trees_of (domain_sections d)) g.name
    ∙ reads_all domain_section add_section (no_domain (bare_word d.name)) (bare_domain d) (domain_sections d) (all_read d g)

pub domain_again : (ts : Trees) (d : Domain) → domain_of ts ≡ Ok d → domain_of (more (domain_expression d) none) ≡ Ok (bare_domain d)
domain_again ts d e = again d (subst (λ r. IfOk r IsDomainAgain) e (domain_good ts))
