-- An answer's bytes: the records are written after the head's four bytes, then the head. Assumes nothing.
use Prim.Native.Nat.{ℕ, ◌+◌, ◌-◌, ◌≤◌}
use native.Mathlib.Omega.{arith}
use mathlib.Core.Path.{◌≡◌, refl, sym, ap, ◌∙◌}
use mathlib.Core.List.{List, [], ◌∷◌, ◌++◌}
use lib.ListN.{length, take, drop, length-append, length-drop}
use borrow.Rule.Slice.PartMut.{put_mid}
use Rattle.rules.specs.Bytes.{concat, bytes_of}
use Rattle.rules.specs.Reason.{code_of}
use Rattle.rules.specs.Frame.{Command, too_short}
use Rattle.rules.specs.Answer.{Answer, answer_bytes, reply_of}
use Rattle.rules.specs.Call.{State, answer, reply}
use Rattle.rules.proofs.Replies.{written-whole}
use Rattle.buffers.specs.Splice.{splice}
use Rattle.buffers.proofs.Splice.{splice_front, splice-before, length-window, rest_back}

-- what is written over a slice fits into it, if the slice stays as long
fits : (d p ys : List ℕ) → p ≡ splice d 0 ys → length p ≡ length d → length ys ≤ length d
fits d p ys e l =
    let q : length p ≡ length ys + (length d - length ys) =
    ap length (e ∙ splice_front d ys) ∙ length-append ys (drop (length ys) d) ∙ ap (λ (n : ℕ). length ys + n) (length-drop (length ys) d) in
    omega arith

abbrev head_bytes : ℕ → ℕ → List ℕ
head_bytes reason n = reason ∷ code_of reason ∷ bytes_of 2 n

-- records into the answer lent from byte 4 on, which comes back as p; then the head
pub records-then-head : (reason n : ℕ) (rs : List (List ℕ)) (d p out : List ℕ) → 4 ≤ length d → n ≡ length rs
    → length p ≡ length (take (length d - 4) (drop 4 d)) → p ≡ splice (take (length d - 4) (drop 4 d)) 0 (concat rs)
    → out ≡ splice (put_mid 4 (length d - 4) d p) 0 (head_bytes reason n)
    → out ≡ splice d 0 (answer_bytes (record { reason = reason; records = rs }))
unfolding answer_bytes bytes_of
records-then-head reason n rs d p out h c l e o =
    let k : length (take (length d - 4) (drop 4 d)) ≡ length d - 4 = length-window 4 (length d - 4) d (omega arith) in
    let f = fits (take (length d - 4) (drop 4 d)) p (concat rs) e l in
    let b : put_mid 4 (length d - 4) d p ≡ splice d 4 (concat rs) = rest_back d p (concat rs) 4 e (omega arith) in
    o
    ∙ ap (λ (x : List ℕ). splice x 0 (head_bytes reason n)) b
    ∙ ap (λ (m : ℕ). splice (splice d 4 (concat rs)) 0 (head_bytes reason m)) c
    ∙ splice-before d 0 4 (concat rs) (head_bytes reason (length rs)) refl (omega arith)

-- and a head alone
pub head-alone : (reason : ℕ) (d out : List ℕ) → out ≡ splice d 0 (head_bytes reason 0)
    → out ≡ splice d 0 (answer_bytes (record { reason = reason; records = [] }))
unfolding answer_bytes bytes_of
head-alone reason d out e = e

-- ---- what a call returns and writes, where the rules answer x

module _ (s : State) (c : Command) (x : Answer) (answered : answer s c ≡ x) where
  pub replies : {r : ℕ} → r ≡ x.reason → r ≡ (reply s c).returned
  unfolding reply reply_of
  replies e = e ∙ ap (λ (a : Answer). a.reason) (sym answered)

  pub fills : (d : List ℕ) {out : List ℕ} → (c ≡ too_short → ⊥) → out ≡ splice d 0 (answer_bytes x)
      → out ≡ (reply s c).written ++ drop (length (reply s c).written) d
  fills d n e =
      e ∙ splice_front d (answer_bytes x)
      ∙ ap (λ (b : List ℕ). b ++ drop (length b) d) (sym (written-whole s c n ∙ ap answer_bytes answered))
