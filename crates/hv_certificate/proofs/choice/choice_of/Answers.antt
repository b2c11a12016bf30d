use Rattle.std.proofs.Common.{◌≡◌, ◌∷◌, sym, ◌∙◌, ap, subst, map, drop, length}
use Rattle.hv_text.specs.Names.{text_of}
use Rattle.hv_certificate.specs.inside.Reading.{IsNoNumberAt}
use Rattle.hv_certificate.proofs.FormLemmas.{ids_front, no_choice, no_end, no_mark, choice_read}
use Rattle.hv_certificate.proofs.choice.choice_of.Goals as goal

pub returns-in_default-split_first : goal.returns-in_default-split_first
returns-in_default-split_first c =
    let count : c.len.result ≡ length c.in_ok-children.children.items = c.len.ensures ∙ c.in_ok-children.children.ok.0 in
    let behind = c.behind-words.ensures ∙ ap (λ n. drop n c.in-Some.words.now) count in
    no_choice (map text_of c.args.words.now) (map text_of c.in-Some.words.now) (map text_of c.behind-words.result.now) (text_of c.in-Some.mark.now) c.in_ok-children.children.items
    (ap (map text_of) c.in-Some.ensures.cases.0)
    (ids_front c.in-Some.words.now c.behind-words.result.now c.in_ok-children.children.items c.in_ok-children.ensures.words behind)
    c.in_ok-children.ensures.ids (subst (λ ns. IsNoNumberAt (map text_of ns)) (sym behind) c.in_ok-children.ensures.end)
    (no_end c.behind-words.result.now c.in_default-split_first.ensures.cases)

pub returns-then-not-is-2 : goal.returns-then-not-is-2
returns-then-not-is-2 c =
    let count : c.len.result ≡ length c.in_ok-children.children.items = c.len.ensures ∙ c.in_ok-children.children.ok.0 in
    let behind = c.behind-words.ensures ∙ ap (λ n. drop n c.in-Some.words.now) count in
    no_choice (map text_of c.args.words.now) (map text_of c.in-Some.words.now) (map text_of c.behind-words.result.now) (text_of c.in-Some.mark.now) c.in_ok-children.children.items
    (ap (map text_of) c.in-Some.ensures.cases.0)
    (ids_front c.in-Some.words.now c.behind-words.result.now c.in_ok-children.children.items c.in_ok-children.ensures.words behind)
    c.in_ok-children.ensures.ids (subst (λ ns. IsNoNumberAt (map text_of ns)) (sym behind) c.in_ok-children.ensures.end)
    (no_mark c.behind-words.result.now c.in-Some-split_first.names.now c.in-Some-split_first.mark.now c.in-Some-split_first.ensures.cases.0
    (sym c.is-2.ensures ∙ c.if-not-is-2.true))

pub returns : goal.returns
returns c =
    let count : c.len.result ≡ length c.in_ok-children.children.items = c.len.ensures ∙ c.in_ok-children.children.ok.0 in
    let behind = c.behind-words.ensures ∙ ap (λ n. drop n c.in-Some.words.now) count in (
      c.in_ok-children.ensures.ids,
      choice_read (map text_of c.args.words.now) (map text_of c.in-Some.words.now) (map text_of c.behind-words.result.now) (text_of c.in-Some.mark.now)
          (text_of c.in-Some-split_first.mark.now) (map text_of c.in_ok-objects.objects.items) c.in_ok-children.children.items
          (ap (map text_of) c.in-Some.ensures.cases.0)
          (ids_front c.in-Some.words.now c.behind-words.result.now c.in_ok-children.children.items c.in_ok-children.ensures.words behind)
          (ap (map text_of) c.in-Some-split_first.ensures.cases.0 ∙ ap (λ ns. text_of c.in-Some-split_first.mark.now ∷ map text_of ns) (sym c.in_ok-objects.ensures.items))
          (sym c.is.ensures ∙ c.if-not-is.false) (sym c.is-2.ensures ∙ c.if-not-is-2.false),
    )
