-- `decks::steps::FitDeck::read`: by what the read answers: only 14 refuses it.
use Rattle.std.proofs.Common.{ℕ, ap, ◌∙◌, sym, arith, length-take-le, [], ◌∷◌}
use Rattle.std.proofs.lemmas.List.{length-replicate}
use Rattle.job.specs.SoundLaws.{standing_test}
use Rattle.job.specs.StandingLaws.{needed_fits}
use Rattle.lines.specs.Text.{line, read_word}
use Rattle.decks.specs.Deck.{read_line}
use Rattle.decks.proofs.Answers.{read_refused, read_told}
use Rattle.decks.proofs.steps.FitDeck.read.Goals as goal

pub slice_bounds-entries-end : goal.slice_bounds-entries-end
slice_bounds-entries-end g c =
    omega (arith, needed_fits _ ((standing_test _).0 c.job-job.result.sound), c.needed.ensures, length-replicate {A = ℕ} 513 0)

pub slice_bounds-entries-end-in-Ok : goal.slice_bounds-entries-end-in-Ok
slice_bounds-entries-end-in-Ok g c =
    sym
    (length-take-le c.needed.result c.read.new.out
    (omega (arith, needed_fits _ ((standing_test _).0 c.job-job.result.sound), c.needed.ensures, length-replicate {A = ℕ} 513 0)))

pub returns-in-Ok : goal.returns-in-Ok
returns-in-Ok g c =
    c.write.ensures
    ∙ sym
    (read_told _ ((standing_test _).0 c.job-job.result.sound) _ _ (length-replicate {A = ℕ} 513 0) _ c.in-Ok.ensures _ c.needed.ensures)
    ∙ ap read_line c.job-job.ensures

pub returns-in-Err : goal.returns-in-Err
returns-in-Err g c =
    c.write-in-Err.ensures
    ∙ ap (λ (w : ℕ). line read_word (14 ∷ w ∷ [])) c.wanted-points.ensures
    ∙ sym (read_refused _ ((standing_test _).0 c.job-job.result.sound) _ _ (length-replicate {A = ℕ} 513 0) _ c.in-Err.ensures)
    ∙ ap read_line c.job-job.ensures
