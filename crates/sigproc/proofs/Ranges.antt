-- Every result is in the range of its type, and every list has its length.
use Rattle.std.proofs.Common.{◌≡◌, ℕ, zero, suc, ◌+◌, ◌-◌, ◌^◌, List, ◌++◌, length, get_or, take, drop, ℤ, pos, w16, w32, SFits}
use mir.Syntax.{Width}
use mir.Val.{hbits}
use Rattle.word.specs.Size.{Bounded}
use Rattle.word.proofs.Words.{wrap-fits}
use Rattle.word.proofs.Sizes.{fits-abs}
use Rattle.word.proofs.Order.{sat16-fits, sat32-fits}
use Rattle.word.proofs.Lists.{length-tabulate}
use Rattle.word.proofs.Fits.{AllFit, one-fits, append-fits, take-fits, drop-fits, set-fits}
use Rattle.sigproc.specs.Place.{put_at, rotate_left, update_out_buf}
use Rattle.sigproc.specs.Expand.{shrunk, bwexpander}
use Rattle.sigproc.specs.Analysis.{residual, analysis}
use Rattle.sigproc.specs.Synthesis.{synthesised, synthesis, played_q10, played}

pub fit_bounded : {w : Width} (xs : List ℤ) → AllFit w xs → Bounded (2 ^ hbits w) xs
fit_bounded xs h i = fits-abs (get_or xs i (pos 0)) (h i)

-- ---- places
pub put_at-fits : {w : Width} (d : List ℤ) (at : ℕ) (s : List ℤ) → AllFit w d → AllFit w s → AllFit w (put_at d at s)
unfolding put_at
put_at-fits d at s h k =
    append-fits (take at d ++ s) (drop (at + length s) d) (append-fits (take at d) s (take-fits at d h) k) (drop-fits (at + length s) d h)

pub update_out_buf-fits : {w : Width} (ob : List ℤ) (mem : ℕ) (xq : List ℤ) → AllFit w ob → AllFit w xq → AllFit w (update_out_buf ob mem xq)
unfolding update_out_buf rotate_left
update_out_buf-fits ob mem xq h k =
    let n = length xq in
    put_at-fits (drop n ob ++ take n ob) (mem - n) xq (append-fits (drop n ob) (take n ob) (drop-fits n ob h) (take-fits n ob h)) k

pub shrunk-fits : (f x : ℤ) → SFits w16 (shrunk f x)
unfolding shrunk
shrunk-fits f x = wrap-fits w16 _

pub bwexpander-fits : (chirp : ℤ) (a : List ℤ) (d : ℕ) → AllFit w16 a → AllFit w16 (bwexpander chirp a d)
unfolding bwexpander
bwexpander-fits chirp a zero h = h
bwexpander-fits chirp a (suc d) h = set-fits (bwexpander chirp a d) d (bwexpander-fits chirp a d h) (shrunk-fits _ _)

-- ---- the analysis filter
pub residual-fits : (x a : List ℤ) (d i : ℕ) → SFits w16 (residual x a d i)
unfolding residual
residual-fits x a d i = sat16-fits _

pub length-analysis : (x a : List ℤ) (d : ℕ) → length (analysis x a d) ≡ length x
unfolding analysis
length-analysis x a d = length-tabulate (length x) _

pub synthesised-fits : (u p : ℤ) → SFits w32 (synthesised u p)
unfolding synthesised
synthesised-fits u p = sat32-fits _

pub synthesis-fits : (mem u a : List ℤ) (d n : ℕ) → AllFit w32 mem → AllFit w32 (synthesis mem u a d n)
unfolding synthesis
synthesis-fits mem u a d zero h = h
synthesis-fits mem u a d (suc n) h =
    append-fits (synthesis mem u a d n) _ (synthesis-fits mem u a d n h) (one-fits _ (synthesised-fits _ _))

pub played_q10-fits : (gain s : ℤ) → SFits w16 (played_q10 gain s)
unfolding played_q10
played_q10-fits gain s = sat16-fits _

pub played-fits : (gain s : ℤ) → SFits w16 (played gain s)
unfolding played
played-fits gain s = played_q10-fits _ s
