-- The machine value of a `Sole`: that of what it holds, in a struct. Assumes `Logic`.
use Rattle.std.proofs.{Common.{◌≡◌, List, [], ◌∷◌, ◌++◌, refl, ap, ◌∙◌}, cell.Inside.{Good, one}, ResultValues.and_tt}
use seplogic.Ra.Ura.{Ura}
use mir.Val.{Val, vstruct, vcons, vnil, of_list, has_ty, WT}
use mathlib.Core.Bool.{true, ◌&&◌}
use lib.Dec.{T}
use types.Logic.{Logic}
use types.Kit.{Item, Goal, Seq, Step, step, ‵, ◌$◌, move, drop, fsplit, fjoin, fpick, fpack, rewrite, feq_i, feq_l}
use denote.RattleType.{RattleType, Valss}
use denote.Laws.{Is, Lawful, shows}
use denote.Exit.{Exit, unchanged, leaves, hidden, under}
use denote.Param.{layout, param, Send.{IsSend, Quiet, struct_send}}
use denote.Steps.{nothing, peeks}
use denote.Struct.Struct.{Struct, within}
use denote.Struct.Owning.{shape}
use Rattle.lojarnek.specs.contracts.sole.Sole as sole

abbrev pub round : Val → Val
round v = vstruct (vcons v vnil)

pub round_good : (Y : RattleType) (v : Val) → Good (layout Y) v → T (has_ty (layout Y) v && true) × WT (round v)
round_good Y v g = (and_tt (has_ty (layout Y) v) g.0, (g.1, tt))

abbrev pub held_row : RattleType → RattleType
held_row Y = param 0 Y

module _ (Y : RattleType) {M : Type 1} {𝓤 : Ura M} {𝓛 : Logic 𝓤} {K : Type 0} {Γ : List (Item 𝓤)} {G : Goal 𝓤 𝓛.H} where
  pub sole_in : K → (x : Y.Denot) (v : Val) → Step K 𝓛 (‵ ((sole.the_row (held_row Y)).own_val (record { value = x }) (round v ∷ [])) ∷ Γ) G (‵ ((held_row Y).own_val x (v ∷ [])) ∷ Γ) G
  sole_in t x v = step (λ s.
      nothing t $ move t (1 ∷ 0 ∷ []) $ fjoin t $ feq_i t (List Val) (round v ∷ []) (round v ∷ []) refl $ fjoin t $
      fpack t (Valss ((held_row Y) ∷ [])) (within (shape (sole.the_type (held_row Y))) (x, tt) (round v ∷ [])) (v ∷ [], tt) $ nothing t $ move t (1 ∷ 0 ∷ []) $ fjoin t $ s)

  pub sole_out : K → Lawful 𝓛 (held_row Y) → (d : (sole.the_row (held_row Y)).Denot) (us : List Val)
      → ((v : Val) → Good (layout Y) v → us ≡ round v ∷ [] → Seq K 𝓛 (‵ ((held_row Y).own_val d.value (v ∷ [])) ∷ Γ) G) → Seq K 𝓛 (‵ ((sole.the_row (held_row Y)).own_val d us) ∷ Γ) G
  sole_out t L d us k =
      fsplit t $ fpick t (λ vss. fsplit t $ feq_l t (λ e. fsplit t $ peeks t (held_row Y) (Is (held_row Y)) (shows 𝓛 (held_row Y)) d.value vss.0 (λ is.
      let got = one (layout Y) vss.0 (L.typed d.value vss.0 is) in
      rewrite t 0 (λ (ws : List Val). ‵ ((held_row Y).own_val d.value ws)) got.1 refl $ move t (1 ∷ []) $ drop t $ move t (1 ∷ []) $ drop t $
      k got.0 got.2 (e ∙ ap (λ (ws : List Val). vstruct (of_list (ws ++ [])) ∷ []) got.1))))

-- ---- what it leaves is what its value leaves
hidden_quiet : {D : Type 0} (e : Exit D) → Quiet e → Quiet (hidden e)
hidden_quiet unchanged q = λ x w. tt
hidden_quiet (leaves L l S s r) q = q

under_quiet : {D X : Type 0} (to : D → X) (e : Exit X) → Quiet e → Quiet (under to e)
under_quiet to unchanged q = λ x w. tt
under_quiet to (leaves L l S s r) q = λ x w. q (to x) w

-- it may go to another thread where its value may
pub sole_send : (T : RattleType) → IsSend T → IsSend (sole.the_row T)
sole_send T s =
    let S : RattleType = Struct (shape (sole.the_type T)) in
    let to : (sole.the_row T).Denot → S.Denot = λ d. (d.value, tt) in
    let fields : IsSend S = struct_send (shape (sole.the_type T)) (s, tt) in
    record { owned = λ d vs. ((λ vss. (tt, (s.owned d.value vss.0, tt))), tt); leaving = λ k. hidden_quiet (under to (S.exit k)) (under_quiet to (S.exit k) (fields.leaving k)) }
