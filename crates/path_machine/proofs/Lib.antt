mod steps
