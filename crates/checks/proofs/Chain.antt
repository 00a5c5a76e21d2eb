-- How a number is reached along a chain of refusals.
--
--   chain     each refusal is a choice by its test, and each part a choice by whether it refuses
use Rattle.checks.specs.Refusal.{gives_cond, then_cond}
use Rattle.checks.specs.Outcome.{number_of_bounds}

pub ruleset chain = (gives_cond, then_cond, number_of_bounds)
