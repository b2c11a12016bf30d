use Rattle.std.proofs.Common.{◌≡◌, ◌∙◌, ◌++◌, ℕ, List, IfOk, OnErr, length, take, drop, ap, sym, subst, arith}
use Rattle.hv_world.specs.declared.id.ObjectId.{ObjectId}
use Rattle.hv_match.specs.Candidates.{IsAdvance}
use Rattle.hv_match.specs.inside.Parts.{to_find, listed_as, listing}
use Rattle.hv_match.proofs.Checking.{written_back}
use Rattle.hv_match.proofs.candidates.Candidates.advance.Goals as goal

pub returns-in-Sought-clause-ok : goal.returns-in-Sought-clause-ok
returns-in-Sought-clause-ok c =
    let ch = c.self.inside.children in
    let ob = c.self.inside.objects in
    let opened : c.args.self.now ≡ listed_as ch.items ob.items (to_find c.in-Sought.seeker.value) = sym c.self.view_is ∙ ap (λ z. listing z ch.items ob.items) c.in-Sought.is in
    let ok = rw (c.deref_mut.ensures.value, c.deref_mut-in-Sought.ensures.value, c.deref_mut-in-Sought-2.ensures.value) at c.advance.ensures.ok in
    let children = written_back ch.items c.advance.new.children ch.len (omega (arith, ch.ok.0)) (c.advance.ensures.children ∙ ap length c.deref_mut-in-Sought.ensures.value) in
    let objects = written_back ob.items c.advance.new.objects ob.len (omega (arith, ob.ok.0)) (c.advance.ensures.objects ∙ ap length c.deref_mut-in-Sought-2.ensures.value) in
    let P : List ℕ → List ObjectId → Type 0 = λ M os. IfOk c.advance.result (IsAdvance c.args.self.now (listed_as M os (to_find c.advance.new.self))) in
    let os : List ObjectId = take ob.len (c.advance.new.objects ++ drop (length c.advance.new.objects) ob.items) in
    subst (λ M. P M os) (sym children) (subst (P c.advance.new.children) (sym objects) (subst (λ l. IfOk c.advance.result (IsAdvance l (listed_as c.advance.new.children c.advance.new.objects (to_find c.advance.new.self)))) (sym opened) ok))

pub returns-in-Sought-clause-err : goal.returns-in-Sought-clause-err
returns-in-Sought-clause-err c =
    let ch = c.self.inside.children in
    let ob = c.self.inside.objects in
    let opened : c.args.self.now ≡ listed_as ch.items ob.items (to_find c.in-Sought.seeker.value) = sym c.self.view_is ∙ ap (λ z. listing z ch.items ob.items) c.in-Sought.is in
    let err = rw (c.deref_mut.ensures.value, c.deref_mut-in-Sought.ensures.value, c.deref_mut-in-Sought-2.ensures.value) at c.advance.ensures.err in
    let children = written_back ch.items c.advance.new.children ch.len (omega (arith, ch.ok.0)) (c.advance.ensures.children ∙ ap length c.deref_mut-in-Sought.ensures.value) in
    let objects = written_back ob.items c.advance.new.objects ob.len (omega (arith, ob.ok.0)) (c.advance.ensures.objects ∙ ap length c.deref_mut-in-Sought-2.ensures.value) in
    let P : List ℕ → List ObjectId → Type 0 = λ M os. OnErr c.advance.result (listed_as M os (to_find c.advance.new.self) ≡ c.args.self.now) in
    let os : List ObjectId = take ob.len (c.advance.new.objects ++ drop (length c.advance.new.objects) ob.items) in
    subst (λ M. P M os) (sym children) (subst (P c.advance.new.children) (sym objects) (subst (λ l. OnErr c.advance.result (listed_as c.advance.new.children c.advance.new.objects (to_find c.advance.new.self) ≡ l)) (sym opened) err))
