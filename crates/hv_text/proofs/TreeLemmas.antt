-- Expressions that spell the same are the same.
use Rattle.std.proofs.Common.{◌≡◌, ◌++◌, ℕ, Bool, true, false, List, [], ◌∷◌, refl, ap, sym, ◌∙◌, append_assoc}
use Rattle.std.proofs.lemmas.List.{append-nil}
use Rattle.hv_text.specs.Trees.{Tree, Trees, word, list, none, more}
use Rattle.hv_text.specs.Words as found
use Rattle.hv_text.specs.Words.{Piece, left, right, bad, pieces}
use Rattle.hv_text.specs.Sexps.{spelled, spelled_all, opening, closing, AreExpressions}
use Rattle.hv_text.specs.declared.span.Span.{Span}

-- whether an expression begins here
abbrev begins_one : List Piece → Bool
begins_one [] = false
begins_one (found.word w s ∷ ps) = true
begins_one (left s ∷ ps) = true
begins_one (right s ∷ ps) = false
begins_one (bad s ∷ ps) = false

one_begins : (t : Tree) (ps : List Piece) → begins_one (spelled t ++ ps) ≡ true
one_begins (word w s) ps = refl
one_begins (list ts s) ps = refl

none_begins : (t : Tree) (ts : Trees) (ps qs : List Piece) → begins_one qs ≡ false → (spelled t ++ spelled_all ts) ++ ps ≡ qs → ⊥
none_begins t ts ps qs h e =
    let a : begins_one ((spelled t ++ spelled_all ts) ++ ps) ≡ true = ap begins_one (append_assoc (spelled t) (spelled_all ts) ps) ∙ one_begins t (spelled_all ts ++ ps) in
    let b : begins_one ((spelled t ++ spelled_all ts) ++ ps) ≡ false = ap begins_one e ∙ h in
    cc

same_place : (s r : Span) → opening s ≡ opening r → closing s ≡ closing r → s ≡ r
same_place s r a b =
    let p : s.start ≡ r.start = ap (λ z. z.start) a in
    let q : s.past ≡ r.past = ap (λ z. z.past) b in
    rw (p, q) refl

same_left : (a b : Span) (ps qs : List Piece) → ◌≡◌ {A = List Piece} (left a ∷ ps) (left b ∷ qs) → (a ≡ b) × (ps ≡ qs)
same_left a b ps qs e = (cc, cc)

same_right : (a b : Span) (ps qs : List Piece) → ◌≡◌ {A = List Piece} (right a ∷ ps) (right b ∷ qs) → (a ≡ b) × (ps ≡ qs)
same_right a b ps qs e = (cc, cc)

pub list_spelled : (ts : Trees) (s : Span) (ps : List Piece) → spelled (list ts s) ++ ps ≡ left (opening s) ∷ (spelled_all ts ++ (right (closing s) ∷ ps))
list_spelled ts s ps = simp append_assoc

mutual
  one_tree : (t u : Tree) (ps qs : List Piece) → spelled t ++ ps ≡ spelled u ++ qs → (t ≡ u) × (ps ≡ qs)
  one_tree (word w s) (word v r) ps qs e = (cc, cc)
  one_tree (word w s) (list us r) ps qs e = cc (list_spelled us r qs)
  one_tree (list ts s) (word v r) ps qs e = cc (list_spelled ts s ps)
  one_tree (list ts s) (list us r) ps qs e =
      let a = same_left (opening s) (opening r) _ _ (sym (list_spelled ts s ps) ∙ e ∙ list_spelled us r qs) in
      let w = one_list ts us (right (closing s) ∷ ps) (right (closing r) ∷ qs) refl refl a.1 in
      let b = same_right (closing s) (closing r) ps qs w.1 in
      let p = same_place s r a.0 b.0 in
      (rw (w.0, p) refl, b.1)

  one_list : (ts us : Trees) (ps qs : List Piece) → begins_one ps ≡ false → begins_one qs ≡ false → spelled_all ts ++ ps ≡ spelled_all us ++ qs
      → (ts ≡ us) × (ps ≡ qs)
  one_list none none ps qs a b e = (refl, e)
  one_list none (more u us) ps qs a b e = absurd (none_begins u us qs ps a (sym e))
  one_list (more t ts) none ps qs a b e = absurd (none_begins t ts ps qs b e)
  one_list (more t ts) (more u us) ps qs a b e =
      let w = one_tree t u (spelled_all ts ++ ps) (spelled_all us ++ qs)
      (sym (append_assoc (spelled t) (spelled_all ts) ps) ∙ e ∙ append_assoc (spelled u) (spelled_all us) qs) in
      let v = one_list ts us ps qs a b w.1 in
      (rw (w.0, v.0) refl, v.1)

pub one_reading : (text : List ℕ) (ts us : Trees) → AreExpressions text ts → AreExpressions text us → ts ≡ us
one_reading text ts us a b =
    (one_list ts us [] [] refl refl (append-nil (spelled_all ts) ∙ a.spelled ∙ sym b.spelled ∙ sym (append-nil (spelled_all us)))).0
