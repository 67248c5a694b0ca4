use Rattle.std.proofs.Common.{◌≡◌, ◌≢◌, ◌+◌, ◌%◌, ◌^◌, eqb, cond, get_or, true, false, refl, ap, ◌∙◌}
use Rattle.std.proofs.lemmas.{Bool.{false≢true, true≢false}, List.get_or_default}
use Rattle.std.specs.Prelude.{Option, None, Some, is_some}
use Rattle.shm_audit.specs.{declared.tally.Reference.Reference, Tallies.unseen}
use Rattle.shm_audit.proofs.Tallying.{tally_named, tally_nothing, tally_strayed}
use Rattle.shm_audit.proofs.tally.Tally.name.Goals as goal

none_there : (o : Option Reference) → is_some o ≡ false → o ≡ None
none_there None e = refl
none_there (Some x) e = absurd (true≢false e)

some_there : (o : Option Reference) → is_some o ≡ true → o ≢ None
some_there None e = absurd (false≢true e)
some_there (Some x) e = λ z. cc

pub returns-then-target-eq0 : goal.returns-then-target-eq0
returns-then-target-eq0 c = λ g ws fits l naming t. tally_nothing g ws c.args.at _ (naming.quiet, naming.names ∙ c.if-target-eq0.true) t

pub returns-in-Some : goal.returns-in-Some
returns-in-Some c = λ g ws fits l naming t.
    let p = c.in-Some.ensures.is g t.start t.places in
    let e : c.index.result.now ≡ get_or c.args.self.now.places.items c.in-Some.place unseen = c.index.ensures ∙ get_or_default c.args.self.now.places.items c.in-Some.place _ unseen c.in-Some.ensures.within in
    tally_named g ws c.args.at c.args.target c.in-Some.place c.args.self.now _ c.named.result fits l naming p.0 p.1 t refl refl
    (ap (λ f. f.times) c.named.ensures ∙ ap (λ f. (f.times + 1) % 2 ^ 32) e) (ap (λ f. f.namer) c.named.ensures ∙ ap (λ f. cond (eqb f.times 0) c.args.at f.namer) e) (ap (λ f. f.count) c.named.ensures ∙ ap (λ f. f.count) e) refl refl refl

pub returns-then-is_none : goal.returns-then-is_none
returns-then-is_none c = λ g ws fits l naming t.
    tally_strayed g ws c.args.at c.args.target c.args.self.now _ (record { at = c.args.at; target = c.args.target }) fits l naming c.if-target-eq0.false (c.in-None.ensures.is g t.start t.places) t
    refl refl refl refl refl refl (λ e. refl) (λ n. absurd (n (none_there c.args.self.now.stray c.if-is_none.ensures)))

pub returns-else-is_none : goal.returns-else-is_none
returns-else-is_none c = λ g ws fits l naming t.
    tally_strayed g ws c.args.at c.args.target c.args.self.now _ (record { at = c.args.at; target = c.args.target }) fits l naming c.if-target-eq0.false (c.in-None.ensures.is g t.start t.places) t
    refl refl refl refl refl refl (λ e. absurd (some_there c.args.self.now.stray c.if-is_none.ensures e)) (λ n. refl)
