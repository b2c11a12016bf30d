-- Four texts have one answer, since what a certificate says of a plan hangs on its text alone.
use Rattle.std.proofs.Common.{◌≡◌, ℕ, List, [], ◌∷◌, Some, map, sym, ◌∙◌, ap, subst}
use Rattle.std.specs.Prelude.{drop}
use Rattle.std.specs.List.{AllZip}
use Rattle.hv_lists.proofs.Bools.{same_bools}
use Rattle.hv_text.specs.Names.{text_of}
use Rattle.hv_syntax.specs.Values.{Domain, Problem}
use Rattle.hv_world.specs.Worlds.{World, world_of}
use Rattle.hv_plan.specs.PlanTrees.{NodeIs}
use Rattle.hv_plan.specs.Values.{Plan}
use Rattle.hv_certificate.specs.Forms.{IsCertText, HasNumbers}
use Rattle.hv_certificate.specs.Texts.{cert_text}
use Rattle.hv_certificate.specs.Views.{choice_view, line_view, certificate_view}
use Rattle.hv_certificate.specs.declared.certificate.Choice.{Choice}
use Rattle.hv_certificate.specs.declared.certificate.Certificate.{Certificate}
use Rattle.hv_order.specs.Certified.{IsChildId, IsNameOf, Says, SaysLine, Certifies, line_numbers}
use Rattle.hv_order.specs.Settings.{Setting}
use Rattle.hv_judge.specs.declared.checking.Recheck.{Recheck}
use Rattle.hv_judge.specs.Answers.{OneSpellingLaw, OneRecheckLaw, ExplainedAgainLaw}
use Rattle.hv_judge.specs.Checked.{IsRecheckOf}
use Rattle.hv_judge.specs.Solutions.{SolvesBy, judged_in}
use Rattle.hv_judge.specs.Verdicts.{AreSpelled}

-- the first item of a list that has one
abbrev first_or : {A : Type 0} → A → List A → A
first_or a [] = a
first_or a (x ∷ xs) = x

-- items that are alike, place by place, fit where the others do
all_alike : {A B D : Type 0} (R : A → B → Type 0) (f : B → D)
    → ((x : A) (y z : B) → f y ≡ f z → R x y → R x z)
    → (xs : List A) (ys zs : List B) → map f ys ≡ map f zs → AllZip R xs ys → AllZip R xs zs
all_alike R f fits [] [] [] same h = tt
all_alike R f fits [] [] (z ∷ zs) same h = absurd (let clash : [] ≡ f z ∷ map f zs = same in cc)
all_alike R f fits [] (y ∷ ys) zs same h = absurd h
all_alike R f fits (x ∷ xs) [] zs same h = absurd h
all_alike R f fits (x ∷ xs) (y ∷ ys) [] same h = absurd (let clash : f y ∷ map f ys ≡ [] = same in cc)
all_alike R f fits (x ∷ xs) (y ∷ ys) (z ∷ zs) same h = (
  fits x y z (ap (first_or (f y)) same) h.0,
  all_alike R f fits xs ys zs (ap (drop 1) same) h.1,
)

-- what is said of a node, and of a line, letter case of names aside
says_alike : (q : Setting) (v : ℕ) (M B : List ℕ) (c e : Choice) → choice_view c ≡ choice_view e
    → Says q v M B c → Says q v M B e
says_alike q v M B c e same h = record {
  children = subst (AllZip (IsChildId q v) M) (ap (λ x. x.children) same) h.children;
  objects =
      all_alike (IsNameOf q) text_of (λ o n m alike this. this ∙ ap Some alike) B c.objects.items e.objects.items
      (ap (λ x. x.objects) same) h.objects;
}

line_alike : (q : Setting) (matching binding : ℕ → List ℕ) (at : ℕ → ℕ) (v : ℕ)
    (l m : ℕ × Choice × ℕ) → line_view l ≡ line_view m → SaysLine q matching binding at v l
    → SaysLine q matching binding at v m
line_alike q matching binding at v l m same h = record {
  id = subst (λ i. NodeIs q.tree (λ n. n.id ≡ Some i) v) (ap (λ x. x.id) same) h.id;
  choice = says_alike q v (matching v) (binding v) l.1 m.1 (ap (λ x. x.choice) same) h.choice;
  index = sym (ap (λ x. x.index) same) ∙ h.index;
}

certifies_alike : (q : Setting) (c e : Certificate) → certificate_view c ≡ certificate_view e
    → Certifies q c → Certifies q e
certifies_alike q c e same h = record {
  matching = h.matching;
  binding = h.binding;
  at = h.at;
  choice = h.choice;
  root = h.root;
  nodes = h.nodes;
  says_root = says_alike q _ _ _ c.root e.root (ap (λ x. x.root) same) h.says_root;
  says_lines =
      all_alike (SaysLine q h.matching h.binding h.at) line_view
      (λ v l m alike this. line_alike q h.matching h.binding h.at v l m alike this)
      (line_numbers q.tree) c.lines.items e.lines.items (ap (λ x. x.lines) same) h.says_lines;
  sequence = h.sequence;
}

solves_alike : (w : World) (p : Plan) (c e : Certificate) → certificate_view c ≡ certificate_view e
    → SolvesBy w p c → SolvesBy w p e
solves_alike w p c e same s = record {
  tree = s.tree;
  reaches = s.reaches;
  certified = certifies_alike (judged_in w s.tree) c e same s.certified;
}

-- one text is that of one certificate, and three texts spell one plan in one world
module _ (one : (c e : Certificate) → HasNumbers c → HasNumbers e → cert_text c ≡ cert_text e
    → certificate_view c ≡ certificate_view e) (spelling : OneSpellingLaw) where
  same_text : (cert : List ℕ) (c e : Certificate) → IsCertText cert c → IsCertText cert e
      → certificate_view c ≡ certificate_view e
  same_text cert c e says tells = one c e says.numbers tells.numbers (sym says.spelled ∙ tells.spelled)

  -- in one world
  one_here : (cert : List ℕ) (w : World) (p : Plan) (r s : Recheck) → IsRecheckOf cert r w p
      → IsRecheckOf cert s w p → r.certified ≡ s.certified
  one_here cert w p r s this that =
      let same = same_text cert this.certificate that.certificate this.says that.says in
      same_bools r.certified s.certified
      (λ on. that.certified.1 (solves_alike w p this.certificate that.certificate same (this.certified.0 on)))
      (λ on. this.certified.1 (solves_alike w p that.certificate this.certificate (sym same) (that.certified.0 on)))

  moved : (domain problem plan : List ℕ) (P : World → Plan → Type 0) (d e : Domain) (p r : Problem)
      (q s : Plan) → AreSpelled domain problem plan d p q → AreSpelled domain problem plan e r s
      → P (world_of e r) s → P (world_of d p) q
  moved domain problem plan P d e p r q s spelled other h =
      let same = spelling domain problem plan d e p r q s spelled other in
      subst (λ x. P (world_of x p) q) (sym same.0)
      (subst (λ x. P (world_of e x) q) (sym same.1)
      (subst (P (world_of e r)) (sym same.2) h))

  pub one_recheck : OneRecheckLaw
  one_recheck domain problem plan cert r s (d, p, q, spelled, this) (e, o, u, other, that) =
      one_here cert (world_of d p) q r s this
      (moved domain problem plan (IsRecheckOf cert s) d e p o q u spelled other that)

  pub explained_again : ExplainedAgainLaw
  explained_again domain problem plan limit c r numbers judged (e, o, u, other, that) =
      let (d, p, q, spelled, solved) = judged.certified in
      let this = moved domain problem plan (IsRecheckOf (cert_text c) r) d e p o q u spelled other that in
      let same = one c this.certificate numbers this.says.numbers this.says.spelled in
      this.certified.1 (solves_alike (world_of d p) q c this.certificate same solved)
