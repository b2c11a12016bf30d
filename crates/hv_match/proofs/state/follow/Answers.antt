use Rattle.std.proofs.Common.{◌≡◌, ◌+◌, ◌-◌, ◌++◌, ◌∷◌, [], length, take, ℕ, List, arith, ap, refl, sym, ◌∙◌}
use Rattle.hv_match.specs.inside.Search.{below}
use Rattle.hv_match.specs.inside.States.{AreTold}
use Rattle.hv_match.proofs.Told.{told_first}
use Rattle.hv_match.proofs.Turns.{descended, descended_coming, descended_steps, passed_coming, passed_steps, stayed}
use Rattle.hv_match.proofs.state.follow.Goals as goal

pub returns-then-is_made-clause-coming : goal.returns-then-is_made-clause-coming
returns-then-is_made-clause-coming g c =
    let none = c.is_made.ensures.made c.if-is_made.true in
    rw c.requires.running (passed_coming (g.R.Rule.search c.args.rule.now).options (g.R.Rule.search c.args.rule.now).levels (g.R.Rule.search c.args.rule.now).distinct (g.R.Rule.search c.args.rule.now).width c.args.at.now c.args.choice c.requires.place c.requires.short (g.R.Rule.search c.args.rule.now).good c.requires.choice none)

pub returns-then-is_made-clause-steps : goal.returns-then-is_made-clause-steps
returns-then-is_made-clause-steps g c =
    rw c.requires.running (passed_steps (g.R.Rule.search c.args.rule.now).options (g.R.Rule.search c.args.rule.now).levels (g.R.Rule.search c.args.rule.now).distinct (g.R.Rule.search c.args.rule.now).width c.args.at.now c.args.choice c.requires.place c.requires.short c.requires.choice)

pub returns-in_err-descend-clause-place : goal.returns-in_err-descend-clause-place
returns-in_err-descend-clause-place g c =
    let distinct = (g.R.Rule.search c.args.rule.now).distinct in
    let a = c.args.at.now in
    let b = c.descend.new.at in
    let back = c.in_err-descend.ensures in
    let same = c.note.ensures.same in
    let told : AreTold b.made_at.items (take distinct a.chosen.items) = rw back.same.1 (told_first distinct c.note.new.at.made_at.items a.chosen.items c.args.choice c.note.ensures.told) in
    stayed (g.R.Rule.search c.args.rule.now).options (g.R.Rule.search c.args.rule.now).levels distinct (g.R.Rule.search c.args.rule.now).width a b c.requires.place (back.err.0 ∙ same.0) (back.err.1 ∙ same.1) told (ap length back.same.1 ∙ c.note.ensures.wide)

pub is_hopeful-requires-clause-path : goal.is_hopeful-requires-clause-path
is_hopeful-requires-clause-path g c =
    let options = (g.R.Rule.search c.args.rule.now).options in
    let levels = (g.R.Rule.search c.args.rule.now).levels in
    let distinct = (g.R.Rule.search c.args.rule.now).distinct in
    let width = (g.R.Rule.search c.args.rule.now).width in
    let a = c.args.at.now in
    let b = c.descend.new.at in
    let x = c.args.choice in
    let to = c.in_ok-descend.ensures in
    let same = c.note.ensures.same in
    let chosen : b.chosen.items ≡ a.chosen.items ++ x ∷ [] = to.ok ∙ ap (λ (l : List ℕ). l ++ x ∷ []) same.0 in
    let numbers : b.numbers.items ≡ a.numbers.items ++ a.next ∷ [] = to.number ∙ rw (same.1, same.2) refl in
    let told : AreTold b.made_at.items (take distinct (a.chosen.items ++ x ∷ [])) = rw to.same.1 c.note.ensures.told in
    let wide : length b.made_at.items ≡ width = ap length to.same.1 ∙ c.note.ensures.wide in
    let p = descended options levels distinct width a b x c.requires.place c.requires.short c.requires.choice c.requires.small chosen numbers told wide in
    rw c.deref.ensures.value p.path

pub back-requires-clause-place : goal.back-requires-clause-place
back-requires-clause-place g c =
    let options = (g.R.Rule.search c.args.rule.now).options in
    let levels = (g.R.Rule.search c.args.rule.now).levels in
    let distinct = (g.R.Rule.search c.args.rule.now).distinct in
    let width = (g.R.Rule.search c.args.rule.now).width in
    let a = c.args.at.now in
    let b = c.descend.new.at in
    let x = c.args.choice in
    let to = c.in_ok-descend.ensures in
    let same = c.note.ensures.same in
    let chosen : b.chosen.items ≡ a.chosen.items ++ x ∷ [] = to.ok ∙ ap (λ (l : List ℕ). l ++ x ∷ []) same.0 in
    let numbers : b.numbers.items ≡ a.numbers.items ++ a.next ∷ [] = to.number ∙ rw (same.1, same.2) refl in
    let told : AreTold b.made_at.items (take distinct (a.chosen.items ++ x ∷ [])) = rw to.same.1 c.note.ensures.told in
    let wide : length b.made_at.items ≡ width = ap length to.same.1 ∙ c.note.ensures.wide in
    let p = descended options levels distinct width a b x c.requires.place c.requires.short c.requires.choice c.requires.small chosen numbers told wide in
    p

pub returns-else-not-is_hopeful-clause-place : goal.returns-else-not-is_hopeful-clause-place
returns-else-not-is_hopeful-clause-place g c =
    let options = (g.R.Rule.search c.args.rule.now).options in
    let levels = (g.R.Rule.search c.args.rule.now).levels in
    let distinct = (g.R.Rule.search c.args.rule.now).distinct in
    let width = (g.R.Rule.search c.args.rule.now).width in
    let a = c.args.at.now in
    let b = c.descend.new.at in
    let x = c.args.choice in
    let to = c.in_ok-descend.ensures in
    let same = c.note.ensures.same in
    let chosen : b.chosen.items ≡ a.chosen.items ++ x ∷ [] = to.ok ∙ ap (λ (l : List ℕ). l ++ x ∷ []) same.0 in
    let numbers : b.numbers.items ≡ a.numbers.items ++ a.next ∷ [] = to.number ∙ rw (same.1, same.2) refl in
    let told : AreTold b.made_at.items (take distinct (a.chosen.items ++ x ∷ [])) = rw to.same.1 c.note.ensures.told in
    let wide : length b.made_at.items ≡ width = ap length to.same.1 ∙ c.note.ensures.wide in
    let p = descended options levels distinct width a b x c.requires.place c.requires.short c.requires.choice c.requires.small chosen numbers told wide in
    p

pub returns-else-not-is_hopeful-clause-coming : goal.returns-else-not-is_hopeful-clause-coming
returns-else-not-is_hopeful-clause-coming g c =
    let options = (g.R.Rule.search c.args.rule.now).options in
    let levels = (g.R.Rule.search c.args.rule.now).levels in
    let distinct = (g.R.Rule.search c.args.rule.now).distinct in
    let width = (g.R.Rule.search c.args.rule.now).width in
    let a = c.args.at.now in
    let b = c.descend.new.at in
    let x = c.args.choice in
    let to = c.in_ok-descend.ensures in
    let same = c.note.ensures.same in
    let chosen : b.chosen.items ≡ a.chosen.items ++ x ∷ [] = to.ok ∙ ap (λ (l : List ℕ). l ++ x ∷ []) same.0 in
    let numbers : b.numbers.items ≡ a.numbers.items ++ a.next ∷ [] = to.number ∙ rw (same.1, same.2) refl in
    let over : b.is_over ≡ a.is_over = to.same.0 ∙ same.3 in
    descended_coming options levels distinct width a b x c.requires.place (g.R.Rule.search c.args.rule.now).good c.requires.running c.requires.short c.requires.choice chosen numbers to.next over

pub returns-else-not-is_hopeful-clause-steps : goal.returns-else-not-is_hopeful-clause-steps
returns-else-not-is_hopeful-clause-steps g c =
    let options = (g.R.Rule.search c.args.rule.now).options in
    let levels = (g.R.Rule.search c.args.rule.now).levels in
    let distinct = (g.R.Rule.search c.args.rule.now).distinct in
    let width = (g.R.Rule.search c.args.rule.now).width in
    let a = c.args.at.now in
    let b = c.descend.new.at in
    let x = c.args.choice in
    let to = c.in_ok-descend.ensures in
    let same = c.note.ensures.same in
    let chosen : b.chosen.items ≡ a.chosen.items ++ x ∷ [] = to.ok ∙ ap (λ (l : List ℕ). l ++ x ∷ []) same.0 in
    let numbers : b.numbers.items ≡ a.numbers.items ++ a.next ∷ [] = to.number ∙ rw (same.1, same.2) refl in
    let over : b.is_over ≡ a.is_over = to.same.0 ∙ same.3 in
    descended_steps options levels distinct width a b x c.requires.place c.requires.running c.requires.short c.requires.choice chosen numbers to.next over

pub returns-then-not-is_hopeful-clause-coming : goal.returns-then-not-is_hopeful-clause-coming
returns-then-not-is_hopeful-clause-coming g c =
    let options = (g.R.Rule.search c.args.rule.now).options in
    let levels = (g.R.Rule.search c.args.rule.now).levels in
    let distinct = (g.R.Rule.search c.args.rule.now).distinct in
    let width = (g.R.Rule.search c.args.rule.now).width in
    let a = c.args.at.now in
    let b = c.descend.new.at in
    let x = c.args.choice in
    let to = c.in_ok-descend.ensures in
    let same = c.note.ensures.same in
    let chosen : b.chosen.items ≡ a.chosen.items ++ x ∷ [] = to.ok ∙ ap (λ (l : List ℕ). l ++ x ∷ []) same.0 in
    let numbers : b.numbers.items ≡ a.numbers.items ++ a.next ∷ [] = to.number ∙ rw (same.1, same.2) refl in
    let told : AreTold b.made_at.items (take distinct (a.chosen.items ++ x ∷ [])) = rw to.same.1 c.note.ensures.told in
    let wide : length b.made_at.items ≡ width = ap length to.same.1 ∙ c.note.ensures.wide in
    let p = descended options levels distinct width a b x c.requires.place c.requires.short c.requires.choice c.requires.small chosen numbers told wide in
    let over : b.is_over ≡ a.is_over = to.same.0 ∙ same.3 in
    let len : levels - length b.chosen.items + length b.chosen.items ≡ levels = omega (arith, p.short) in
    let none = (rw (c.if-not-is_hopeful.true, c.deref.ensures.value) at c.is_hopeful.ensures) refl (levels - length b.chosen.items) len in
    let none' : below options (g.R.Rule.search c.args.rule.now).good (levels - length b.chosen.items) b.chosen.items b.next ≡ [] = rw to.next none in
    let back = rw none' at c.back.ensures.coming in
    c.skip.ensures.coming ∙ sym back ∙ descended_coming options levels distinct width a b x c.requires.place (g.R.Rule.search c.args.rule.now).good c.requires.running c.requires.short c.requires.choice chosen numbers to.next over

pub returns-then-not-is_hopeful-clause-steps : goal.returns-then-not-is_hopeful-clause-steps
returns-then-not-is_hopeful-clause-steps g c =
    let options = (g.R.Rule.search c.args.rule.now).options in
    let levels = (g.R.Rule.search c.args.rule.now).levels in
    let distinct = (g.R.Rule.search c.args.rule.now).distinct in
    let width = (g.R.Rule.search c.args.rule.now).width in
    let a = c.args.at.now in
    let b = c.descend.new.at in
    let x = c.args.choice in
    let to = c.in_ok-descend.ensures in
    let same = c.note.ensures.same in
    let chosen : b.chosen.items ≡ a.chosen.items ++ x ∷ [] = to.ok ∙ ap (λ (l : List ℕ). l ++ x ∷ []) same.0 in
    let numbers : b.numbers.items ≡ a.numbers.items ++ a.next ∷ [] = to.number ∙ rw (same.1, same.2) refl in
    let over : b.is_over ≡ a.is_over = to.same.0 ∙ same.3 in
    omega (arith, c.skip.ensures.steps, c.back.ensures.steps, descended_steps options levels distinct width a b x c.requires.place c.requires.running c.requires.short c.requires.choice chosen numbers to.next over)
