-- what a call tests, from one type of answer to another
use Rattle.std.proofs.{Common.{◌≡◌, false, refl, sym, ap, ◌∙◌, subst, Result, Ok, Err}, lemmas.Bool.true≢false}
use Rattle.std.specs.Prelude.{Option, Some, None, IfSome, IfOk}
use Rattle.lojarnek.specs.{declared.error.Error.{Error, TheVariants.Died}, Standing.Acts, Tables.WasTested}

-- a refusal, as an answer of this type
abbrev pub failed : (A : Type 0) → Error → Result A Error
failed A e = Err e

ok≢err : {A : Type 0} {P : Type 0} (a : A) (e : Error) → Ok a ≡ Err e → P
ok≢err a e is = absurd (cc)

the_err : (A B : Type 0) (x e : Error) → failed A x ≡ Err e → failed B x ≡ Err e
the_err A B x e is = let same : x ≡ e = (cc) in ap Err same

wrong_ok : {A B : Type 0} (w : Option Error) (c c' : Acts) (a : A) (r : Result B Error) → IfSome w (λ e. (Ok a ≡ Err e) × (c' ≡ c)) → IfSome w (λ e. (r ≡ Err e) × (c' ≡ c))
wrong_ok None c c' a r h = tt
wrong_ok (Some e) c c' a r h = ok≢err a e h.0

wrong_err : (A B : Type 0) (w : Option Error) (c c' : Acts) (x : Error) → IfSome w (λ e. (failed A x ≡ Err e) × (c' ≡ c)) → IfSome w (λ e. (failed B x ≡ Err e) × (c' ≡ c))
wrong_err A B None c c' x h = tt
wrong_err A B (Some e) c c' x h = (the_err A B x e h.0, h.1)

lives_ok : {B : Type 0} (c' : Acts) (r : Result B Error) → c'.token.dead ≡ false → IfOk r (λ _. c'.token.dead ≡ false)
lives_ok c' (Ok b) h = h
lives_ok c' (Err e) h = tt

-- a command that answered, in whichever words
pub tested_ok : {A B : Type 0} (w : Option Error) (c c' : Acts) (a : A) (r : Result B Error) → WasTested w c c' (Ok a) → WasTested w c c' r
tested_ok w c c' a r h =
    record {
      wrong = wrong_ok w c c' a r h.wrong;
      dead = λ right dead. ok≢err a (Died false) (h.dead right dead).0;
      lives = lives_ok c' r h.lives;
    }

-- one that was refused
pub tested_err : (A B : Type 0) (w : Option Error) (c c' : Acts) (x : Error) → WasTested w c c' (failed A x) → WasTested w c c' (failed B x)
tested_err A B w c c' x h =
    record {
      wrong = wrong_err A B w c c' x h.wrong;
      dead = λ right dead. let t = h.dead right dead in (the_err A B x (Died false) t.0, t.1);
      lives = tt;
    }

-- ---- how a command comes to be tested

-- what is wrong was answered
pub tested_wrong : (A : Type 0) (w : Option Error) (c : Acts) (e : Error) → Some e ≡ w → WasTested w c c (failed A e)
tested_wrong A w c e is = subst (λ (x : Option Error). WasTested x c c (failed A e)) is (record { wrong = (refl, refl); dead = λ right dead. absurd (cc); lives = tt })

-- nothing was wrong, and the client lived
pub tested_ran : {A : Type 0} (w : Option Error) (c c' : Acts) (r : Result A Error) → w ≡ None → c.token.dead ≡ false → IfOk r (λ _. c'.token.dead ≡ false) → WasTested w c c' r
tested_ran {A} w c c' r right alive lives = subst (λ (x : Option Error). WasTested x c c' r) (sym right) (record { wrong = tt; dead = λ none dead. absurd (true≢false (sym dead ∙ alive)); lives = lives })
