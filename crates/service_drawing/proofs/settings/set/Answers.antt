use Rattle.std.proofs.Common.{◌≡◌, false, refl, inr, rules}
use Rattle.service_drawing.specs.Settings.{setting_names, word_of}
use Rattle.service_drawing.proofs.SettingLines.{as_word, marked_at, spaced, not_a_value}
use Rattle.service_drawing.proofs.settings.set.Goals as goal

pub returns-in_default-find-clause-refused : goal.returns-in_default-find-clause-refused
returns-in_default-find-clause-refused c =
    let word : word_of c.args.text.now ≡ c.in-Some.word.now = search rules in (
      spaced c.args.text.now c.in-Some.word.now c.in-Some.text.now word (search rules),
      λ index h. c.in_default-find.ensures.name index (rw word at h),
    )

pub returns-in-Some-of_kind-clause-set : goal.returns-in-Some-of_kind-clause-set
returns-in-Some-of_kind-clause-set c = record {
  set = record { index = c.in-Some-find.index; value = c.in-Some-of_kind.value };
  gives = record {
    old = c.in-Some-find.value;
    setting = as_word (setting_names c.args.kind) c.in-Some-find.index c.in-Some.word.now
        (word_of c.args.text.now) (search rules) (search rules);
    spelled = search rules;
    stands = search rules;
    legal = search rules;
  };
  first = marked_at c.args.given.now c.in-Some-find.index false
      (search rules) c.if-given-index.false;
  changed = search rules;
  noted = refl;
}

pub returns-in_default-of_kind-2-clause-refused : goal.returns-in_default-of_kind-2-clause-refused
returns-in_default-of_kind-2-clause-refused c =
    let named = as_word (setting_names c.args.kind) c.in-Some-find.index c.in-Some.word.now
    (word_of c.args.text.now) (search rules) (search rules) in (
      inr (record {
        index = c.in-Some-find.index;
        setting = named;
        marked = marked_at c.args.given.now c.in-Some-find.index false
            (search rules) c.if-given-index.false;
      }),
      not_a_value c.args.kind c.args.defaults.now c.in-Some-find.index c.in-Some-find.value
          c.args.text.now c.in-Some.text.now named (search rules) (search rules)
          c.in_default-of_kind.ensures,
    )
