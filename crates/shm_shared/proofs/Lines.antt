-- the line of a call by its number fits its identity
use Rattle.std.proofs.Common.{◌≡◌, ◌≢◌, ℕ, ◌^◌, ◌<◌, ◌==◌, Bool, true, false, cond, Option, Some, None, refl, sym, ap, ◌∙◌, subst, ltb-true, arith, not, nat_lt}
use Rattle.std.proofs.lemmas.Bool.{eq-eqb, false≢true}
use Rattle.shm_graph.specs.declared.ask.Me.{Me}
use Rattle.shm_script.specs.{declared.line.Line.Line, Ranges.LineFits}
use Rattle.shm_script.specs.declared.line.Line.TheVariants as line
use Rattle.shm_session.specs.declared.said.Call.{Call}
use Rattle.shm_sessions.specs.Logs.{IsCall}
use Rattle.shm_sitting.specs.Numbers.{byte_of, line_of, one, three, two, word_of}
use Rattle.shm_sitting.specs.Tables.{command_by, may_be, where_may}

-- the keys and the number of a line have their sizes
abbrev Sized : Line → Type 0
Sized (line.Put k n) = (k < 2 ^ 32) × (n < 2 ^ 64)
Sized (line.Del k) = k < 2 ^ 32
Sized (line.Get a k) = k < 2 ^ 32
Sized (line.Copy k a l) = (k < 2 ^ 32) × (l < 2 ^ 32)
Sized (line.Send to k) = k < 2 ^ 32
Sized (line.Recv from k) = k < 2 ^ 32

word_small : (n k : ℕ) → word_of n ≡ Some k → k < 2 ^ 32
word_small n k = go (nat_lt n 4294967296) refl
  where
    go : (b : Bool) → nat_lt n 4294967296 ≡ b → cond b (Some n) None ≡ Some k → k < 2 ^ 32
    go true l e = let q : n ≡ k = cc in let z = ltb-true n 4294967296 l in subst (λ (i : ℕ). i < 2 ^ 32) q (omega arith)
    go false l e = absurd (cc)

one_sized : (f : ℕ → Line) (o : Option ℕ) (l : Line) → ((k : ℕ) → o ≡ Some k → Sized (f k)) → one f o ≡ Some l → Sized l
one_sized f None l h e = absurd (cc)
one_sized f (Some k) l h e = let q : f k ≡ l = cc in subst Sized q (h k refl)

two_sized : (f : ℕ → ℕ → Line) (o p : Option ℕ) (l : Line) → ((a b : ℕ) → o ≡ Some a → p ≡ Some b → Sized (f a b)) → two f o p ≡ Some l → Sized l
two_sized f None p l h e = absurd (cc)
two_sized f (Some a) p l h e = one_sized (f a) p l (λ b z. h a b refl z) e

three_sized : (f : ℕ → ℕ → ℕ → Line) (o p q : Option ℕ) (l : Line) → ((a b d : ℕ) → o ≡ Some a → p ≡ Some b → q ≡ Some d → Sized (f a b d)) → three f o p q ≡ Some l → Sized l
three_sized f None p q l h e = absurd (cc)
three_sized f (Some a) p q l h e = two_sized (f a) p q l (λ b d y z. h a b d refl y z) e

line_sized : (c : Call) (l : Line) → IsCall c → line_of c ≡ Some l → Sized l
line_sized c l h = go (c.op == 4) (c.op == 5) (c.op == 6) (c.op == 7) (c.op == 8) (c.op == 9)
  where
    go : (p q r s t u : Bool) → cond p (one (λ k. line.Put k c.second) (word_of c.first)) (cond q (two line.Get (byte_of c.first) (word_of c.second)) (cond r (one line.Del (word_of c.first)) (cond s (three line.Copy (word_of c.first) (byte_of c.second) (word_of c.third)) (cond t (two line.Send (byte_of c.first) (word_of c.second)) (cond u (two line.Recv (byte_of c.first) (word_of c.second)) None))))) ≡ Some l → Sized l
    go true q r s t u e = one_sized (λ k. line.Put k c.second) (word_of c.first) l (λ k z. (word_small c.first k z, h.2)) e
    go false true r s t u e = two_sized line.Get (byte_of c.first) (word_of c.second) l (λ a k y z. word_small c.second k z) e
    go false false true s t u e = one_sized line.Del (word_of c.first) l (λ k z. word_small c.first k z) e
    go false false false true t u e = three_sized line.Copy (word_of c.first) (byte_of c.second) (word_of c.third) l (λ a b d x y z. (word_small c.first a x, word_small c.third d z)) e
    go false false false false true u e = two_sized line.Send (byte_of c.first) (word_of c.second) l (λ a k y z. word_small c.second k z) e
    go false false false false false true e = two_sized line.Recv (byte_of c.first) (word_of c.second) l (λ a k y z. word_small c.second k z) e
    go false false false false false false e = absurd (cc)

-- another identity than its own, of the pool
other_of : (me : Me) (i : ℕ) → cond (nat_lt i me.geometry.clients) (not (me.who == i)) false ≡ true → (i < me.geometry.clients) × (i ≢ me.who)
other_of me i = go (nat_lt i me.geometry.clients) refl
  where
    go : (b : Bool) → nat_lt i me.geometry.clients ≡ b → cond b (not (me.who == i)) false ≡ true → (i < me.geometry.clients) × (i ≢ me.who)
    go true l e = (ltb-true i me.geometry.clients l, λ z. false≢true (ap not (sym (eq-eqb me.who i (sym z))) ∙ e))
    go false l e = absurd (false≢true e)

own_of : (me : Me) (i : ℕ) → cond (nat_lt i me.geometry.clients) (not (i == me.who)) false ≡ true → (i < me.geometry.clients) × (i ≢ me.who)
own_of me i = go (nat_lt i me.geometry.clients) refl
  where
    go : (b : Bool) → nat_lt i me.geometry.clients ≡ b → cond b (not (i == me.who)) false ≡ true → (i < me.geometry.clients) × (i ≢ me.who)
    go true l e = (ltb-true i me.geometry.clients l, λ z. false≢true (ap not (sym (eq-eqb i me.who z)) ∙ e))
    go false l e = absurd (false≢true e)

sized_fits : (me : Me) (l : Line) → Sized l → may_be me l ≡ true → LineFits me.geometry.clients me.who l
sized_fits me (line.Put k n) s m = s
sized_fits me (line.Del k) s m = s
sized_fits me (line.Get a k) s m = (ltb-true a me.geometry.clients m, s)
sized_fits me (line.Copy k a l) s m = (s.0, ltb-true a me.geometry.clients m, s.1)
sized_fits me (line.Send to k) s m = let o = other_of me to m in (o.0, o.1, s)
sized_fits me (line.Recv from k) s m = let o = own_of me from m in (o.0, o.1, s)

pub command_fits : (me : Me) (c : Call) (l : Line) → IsCall c → command_by me c ≡ Some l → LineFits me.geometry.clients me.who l
command_fits me c l h = by (line_of c) refl
  where
    may : (x : Line) → line_of c ≡ Some x → (b : Bool) → may_be me x ≡ b → cond b (Some x) None ≡ Some l → LineFits me.geometry.clients me.who l
    may x e true z q = let same : x ≡ l = cc in subst (LineFits me.geometry.clients me.who) same (sized_fits me x (line_sized c x h e) z)
    may x e false z q = absurd (cc)

    by : (o : Option Line) → line_of c ≡ o → where_may me o ≡ Some l → LineFits me.geometry.clients me.who l
    by None e q = absurd (cc)
    by (Some x) e q = may x e (may_be me x) refl q
