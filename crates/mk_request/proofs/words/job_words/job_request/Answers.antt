use Rattle.mk_request.proofs.words.job_words.job_request.Goals as goal

pub returns : goal.returns
returns c = λ name is. record {
  build = c.in_ok-build_args.ensures;
  footprints = c.value_in.ensures;
  strict = c.is_set.ensures;
  question = is;
}
