use Rattle.number_lists.proofs.Courses.{course_first}
use Rattle.number_lists.proofs.searching.start.Goals as goal

pub returns : goal.returns
returns c = λ fs.
    course_first fs c.args.transitions.now (record { gone = c.in_ok-gone.gone; places = c.in_ok-places.places; mappings = c.new.result })
    (c.in_ok-gone.ensures.items_if_clones_equal (λ y same. same)) c.in_ok-places.ensures c.new.ensures
